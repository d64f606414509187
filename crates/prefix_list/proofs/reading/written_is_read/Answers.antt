use Rattle.prefix_list.proofs.Written as written
use Rattle.prefix_list.proofs.reading.written_is_read.Goals as goal

pub returns : goal.returns
returns c = written.written_is_read
