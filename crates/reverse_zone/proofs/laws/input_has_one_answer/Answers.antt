use Rattle.reverse_zone.proofs.Pairings.{input_has_one_answer}
use Rattle.reverse_zone.proofs.laws.input_has_one_answer.Goals as goal

pub returns : goal.returns
returns c = input_has_one_answer
