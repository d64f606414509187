use Rattle.std.proofs.Common.{◌≡◌, ℕ, List, [], ◌∷◌, ◌+◌, ◌++◌, take, drop, get_or, sym, ◌∙◌, ap, subst, append_assoc, take-append-drop}
use Rattle.std.proofs.lemmas.List.{take_more}
use Rattle.command_free.specs.Reading.{StopsWhatever}
use Rattle.command_free.proofs.Readings.{stops_within}
use Rattle.command_free.proofs.lines.take_piece.Goals as goal

pub returns-in-Err : goal.returns-in-Err
returns-in-Err c = λ bytes h.
    let piece = c.args.piece.now in
    let i = c.loop-byte.byte-index in
    let within = c.args.within.now in
    let stop = c.in-Err.stop in
    let s = c.in-Err.ensures (bytes ++ take i piece) (c.loop-byte.invariant bytes h) in
    let more : (bytes ++ take i piece) ++ get_or piece i 0 ∷ [] ≡ bytes ++ take (i + 1) piece = append_assoc bytes (take i piece) (get_or piece i 0 ∷ []) ∙ ap (λ (xs : List ℕ). bytes ++ xs) (sym (take_more piece i 0 c.loop-byte-test.true)) in
    subst (λ (xs : List ℕ). StopsWhatever within (bytes ++ xs) stop) (take-append-drop (i + 1) piece)
    (stops_within within bytes (take (i + 1) piece) (drop (i + 1) piece) stop (subst (λ (xs : List ℕ). StopsWhatever within xs stop) more s))
