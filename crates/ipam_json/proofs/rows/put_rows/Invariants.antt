use Rattle.std.proofs.Common.{take, Ok}
use Rattle.std.specs.declared.alloc.AllocError.{AllocError}
use Rattle.ipam_json.specs.Replies.{view_data}
use Rattle.ipam_json.specs.Written.{Puts, rows_pieces}
use Rattle.ipam_json.proofs.rows.put_rows.Given as goal

abbrev pub invariant-loop-view : goal.invariant-loop-view
invariant-loop-view l = Puts {E = AllocError} (Ok tt) l.fn.writer l.writer (rows_pieces view_data (take l.view-index l.views))
