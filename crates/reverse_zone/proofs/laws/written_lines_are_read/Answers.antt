use Rattle.reverse_zone.proofs.Readback.{written_lines_are_read}
use Rattle.reverse_zone.proofs.laws.written_lines_are_read.Goals as goal

pub returns : goal.returns
returns c = written_lines_are_read
