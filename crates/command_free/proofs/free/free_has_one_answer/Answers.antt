use Rattle.command_free.proofs.OneAnswer.{one_answer}
use Rattle.command_free.proofs.free.free_has_one_answer.Goals as goal

pub returns : goal.returns
returns c = one_answer
