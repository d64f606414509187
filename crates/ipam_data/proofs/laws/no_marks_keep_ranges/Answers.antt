use Rattle.ipam_data.proofs.MarkLaws.{no_marks_keep_ranges}
use Rattle.ipam_data.proofs.laws.no_marks_keep_ranges.Goals as goal

pub returns : goal.returns
returns c = no_marks_keep_ranges
