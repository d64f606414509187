use Rattle.machine_answers.proofs.Listed.{listed}
use Rattle.machine_answers.proofs.answers_are_listed.Goals as goal

pub returns : goal.returns
returns g c = listed _
