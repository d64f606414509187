use Rattle.ipam_data.proofs.SameDrafts.{same_decides}
use Rattle.ipam_data.proofs.laws.same_drafts_are_one.Goals as goal

pub returns : goal.returns
returns c = same_decides
