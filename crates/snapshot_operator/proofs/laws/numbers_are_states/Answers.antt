use Rattle.snapshot_operator.proofs.Shown.{numbers_are_states}
use Rattle.snapshot_operator.proofs.laws.numbers_are_states.Goals as goal

pub returns : goal.returns
returns c = numbers_are_states
