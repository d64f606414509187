use Rattle.std.proofs.Common.{◌≡◌}
use Rattle.std.specs.List.{AllByRecursion}
use Rattle.claim_trial.proofs.tests.pieces_of.Given as goal

abbrev pub invariant-words : goal.invariant-words
invariant-words l = record {
  next : (goal.iterator-words).can_next l.word-iterator;
  finite : (goal.iterator-words).is_finite l.word-iterator;
  pieces : AllByRecursion (λ b. b.family ≡ l.family) l.out.items;
}
