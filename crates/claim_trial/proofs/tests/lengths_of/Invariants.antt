use Rattle.std.proofs.Common.{◌≤◌, length}
use Rattle.block_claim.specs.Claims.{FitInside}
use Rattle.claim_trial.proofs.tests.lengths_of.Given as goal

abbrev pub invariant-words : goal.invariant-words
invariant-words l = record {
  next : (goal.iterator-words).can_next l.word-iterator;
  finite : (goal.iterator-words).is_finite l.word-iterator;
  lengths : FitInside l.within l.out.items;
  few : length l.out.items ≤ 1000;
}
