use Rattle.number_laws.proofs.Meetings.{never_meet}
use Rattle.number_laws.proofs.numbers_never_meet.Goals as goal

pub returns : goal.returns
returns c = never_meet
