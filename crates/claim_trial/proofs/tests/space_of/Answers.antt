use Rattle.std.proofs.Common.{◌∷◌, ◌∙◌, arith}
use Rattle.std.proofs.lemmas.List.Sorted.{length_permutation}
use Rattle.claim_trial.proofs.Lists.{one_more_single}
use Rattle.claim_trial.proofs.tests.space_of.Goals as goal

pub words-preserved : goal.words-preserved
words-preserved g c = record {
  next = tt;
  finite = tt;
  family = c.put.ensures.family ∙ c.words.invariant.family;
  few = (let before = c.words.invariant.few in let one = length_permutation (c.in-Some-block_of.block ∷ g.S.Space.held c.words.space) (g.S.Space.held c.put.new.space) c.in_ok-put.ensures.put in omega arith);
  done = (let before = c.words.invariant.done in let other = c.if-done-eq900.false in omega arith);
  singles = λ hosts. one_more_single c.in-Some-block_of.block (g.S.Space.held c.words.space) (g.S.Space.held c.put.new.space) (c.words.invariant.singles hosts) (c.in-Some-block_of.ensures.single hosts) c.in_ok-put.ensures.put;
}
