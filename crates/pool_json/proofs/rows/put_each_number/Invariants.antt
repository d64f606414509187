use Rattle.std.proofs.Common.{take, Ok}
use Rattle.std.specs.declared.alloc.AllocError.{AllocError}
use Rattle.ipam_json.specs.Written.{Puts, rows_pieces}
use Rattle.ipam_json.specs.Values.{number_data}
use Rattle.pool_json.proofs.rows.put_each_number.Given as goal

abbrev pub invariant-loop-number : goal.invariant-loop-number
invariant-loop-number l = Puts {E = AllocError} (Ok tt) l.fn.writer l.writer (rows_pieces number_data (take l.number-index l.numbers))
