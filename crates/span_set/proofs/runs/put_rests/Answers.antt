use Rattle.std.proofs.Common.{◌≡◌, ℕ, ◌+◌, ◌<◌, ◌++◌, ◌∷◌, List, [], length, take, get_or, set, ◌∙◌, ap, arith}
use Rattle.std.proofs.lemmas.List.{length-take, set_at, take_more, append_assoc}
use Rattle.span_set.specs.declared.runs.Run.{Run}
use Rattle.span_set.proofs.runs.put_rests.Goals as goal

-- a write over the last of some runs
written : (runs new rest : List Run) (from : ℕ) (left : Run) → from < length runs → new ≡ take (from + 1) runs ++ rest → set new from left ≡ take from runs ++ left ∷ rest
written runs new rest from left l e =
    let d : Run = record { first = 0; last = 0 } in
    let split : new ≡ take from runs ++ get_or runs from d ∷ rest = e ∙ ap (λ zs. zs ++ rest) (take_more runs from d l) ∙ append_assoc (take from runs) (get_or runs from d ∷ []) rest in
    ap (λ zs. set zs from left) split ∙ set_at (take from runs) (get_or runs from d) rest left from (omega (arith, length-take from runs))

pub returns-in_ok-put_over-in-Some-Some-clause-ok : goal.returns-in_ok-put_over-in-Some-Some-clause-ok
returns-in_ok-put_over-in-Some-Some-clause-ok c =
    rw (c.in-Some-Some.is-0, c.in-Some-Some.is-1) (written c.args.runs.now.items c.put_over.new.runs.items _ c.args.from c.in-Some-Some.left (omega arith) c.in_ok-put_over-in-Some-Some.ensures.ok)
