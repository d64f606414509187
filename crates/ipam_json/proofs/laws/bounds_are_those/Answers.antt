use Rattle.ipam_json.proofs.Unique.{bounds_are_those}
use Rattle.ipam_json.proofs.laws.bounds_are_those.Goals as goal

pub returns : goal.returns
returns c = bounds_are_those
