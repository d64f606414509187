use Rattle.stored_tables.proofs.ReadBack.{written_is_read}
use Rattle.stored_tables.proofs.laws.written_rows_are_read.Goals as goal

pub returns : goal.returns
returns c = written_is_read
