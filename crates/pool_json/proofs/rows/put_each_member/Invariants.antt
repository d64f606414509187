use Rattle.std.proofs.Common.{take, Ok}
use Rattle.std.specs.declared.alloc.AllocError.{AllocError}
use Rattle.ipam_json.specs.Written.{Puts, rows_pieces}
use Rattle.pool_json.specs.Rows.{member_data}
use Rattle.pool_json.proofs.rows.put_each_member.Given as goal

abbrev pub invariant-loop-row : goal.invariant-loop-row
invariant-loop-row l = Puts {E = AllocError} (Ok tt) l.fn.writer l.writer (rows_pieces (member_data l.kind) (take l.row-index l.rows))
