use Rattle.std.proofs.Common.{take, Ok}
use Rattle.std.specs.declared.alloc.AllocError.{AllocError}
use Rattle.ipam_json.specs.Replies.{block_data}
use Rattle.ipam_json.specs.Written.{Puts, rows_pieces}
use Rattle.ipam_json.proofs.available.put_each_block.Given as goal

abbrev pub invariant-loop-block : goal.invariant-loop-block
invariant-loop-block l = Puts {E = AllocError} (Ok tt) l.fn.writer l.writer (rows_pieces (block_data l.vrf) (take l.block-index l.blocks))
