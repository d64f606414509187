use Rattle.claim_laws.proofs.Meetings.{never_meet}
use Rattle.claim_laws.proofs.claims_never_meet.Goals as goal

pub returns : goal.returns
returns c = never_meet
