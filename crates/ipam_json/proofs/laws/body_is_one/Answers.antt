use Rattle.ipam_json.proofs.Unique.{body_is_one}
use Rattle.ipam_json.proofs.laws.body_is_one.Goals as goal

pub returns : goal.returns
returns c = body_is_one
