use Rattle.std.proofs.Common.{◌≡◌, ◌++◌}
use Rattle.inet_num.proofs.PlainSearch.{picked_below}
use Rattle.inet_num.proofs.plain.push_at.Given as goal

abbrev pub invariant-loop-len : goal.invariant-loop-len
invariant-loop-len l = l.out.items ≡ l.initial.out.items ++ picked_below l.within l.children l.addr.value l.len
