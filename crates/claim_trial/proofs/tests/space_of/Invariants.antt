use Rattle.std.proofs.Common.{◌≡◌, ◌≤◌, true, length}
use Rattle.block_space.specs.Usable.{AreSingles}
use Rattle.claim_trial.proofs.tests.space_of.Given as goal

abbrev pub invariant-words : goal.invariant-words
invariant-words g l = record {
  next : (goal.iterator-words g).can_next l.word-iterator;
  finite : (goal.iterator-words g).is_finite l.word-iterator;
  family : g.S.Space.family_of l.space ≡ l.family;
  few : length (g.S.Space.held l.space) ≤ l.done;
  done : l.done ≤ 900;
  singles : l.hosts ≡ true → AreSingles (g.S.Space.held l.space);
}
