use Rattle.claim_trial.proofs.Lists.{all_apart}
use Rattle.claim_trial.proofs.tests.spans_of.Goals as goal

pub returns-in_default : goal.returns-in_default
returns-in_default c = all_apart c.words.from c.words.out.items c.words.invariant.apart

pub returns-then-first-from : goal.returns-then-first-from
returns-then-first-from c = all_apart c.words.from c.words.out.items c.words.invariant.apart

pub returns : goal.returns
returns c = all_apart c.words.from c.words.out.items c.words.invariant.apart
