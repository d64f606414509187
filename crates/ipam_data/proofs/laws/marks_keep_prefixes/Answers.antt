use Rattle.ipam_data.proofs.MarkLaws.{marks_keep_prefixes}
use Rattle.ipam_data.proofs.laws.marks_keep_prefixes.Goals as goal

pub returns : goal.returns
returns c = marks_keep_prefixes
