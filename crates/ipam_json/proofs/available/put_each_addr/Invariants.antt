use Rattle.std.proofs.Common.{take, Ok}
use Rattle.std.specs.declared.alloc.AllocError.{AllocError}
use Rattle.ipam_json.specs.Replies.{addr_data}
use Rattle.ipam_json.specs.Written.{Puts, rows_pieces}
use Rattle.ipam_json.proofs.available.put_each_addr.Given as goal

abbrev pub invariant-loop-addr : goal.invariant-loop-addr
invariant-loop-addr l = Puts {E = AllocError} (Ok tt) l.fn.writer l.writer (rows_pieces (addr_data l.vrf l.len) (take l.addr-index l.addrs))
