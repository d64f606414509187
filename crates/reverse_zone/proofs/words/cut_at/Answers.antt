use Rattle.std.proofs.Common.{◌≡◌, ◌≢◌, ◌+◌, ◌++◌, ◌∷◌, List, ℕ, Some, ap, ◌∙◌, sym, take, rules, tests}
use Rattle.std.proofs.lemmas.List.{take_rest}
use Rattle.std.proofs.lemmas.Iterator.{IsFirst-from_position, YieldsList-from_slice}
use Rattle.reverse_zone.proofs.Cuts.{cut_here}
use Rattle.reverse_zone.proofs.words.cut_at.Goals as goal

pub returns-clause-some : goal.returns-clause-some
returns-clause-some c =
    let text = c.args.text.now in
    let byte = c.args.byte in
    let end = c.in_ok-end.end in
    let place = IsFirst-from_position _ _ (Some end) (λ b. b ≡ byte) (λ b. b ≢ byte) c.in_ok-end.ensures.ran (YieldsList-from_slice text (cc)) (λ x q k. search (rules, tests)) (λ x q k. search (rules, tests)) in
    cut_here byte text end place.0 place.1 ∙ ap (λ (rest : List ℕ). take end text ++ byte ∷ rest) (sym (take_rest text (end + 1)))
