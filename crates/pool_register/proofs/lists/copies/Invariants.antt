use Rattle.std.proofs.Common.{◌≡◌, take}
use Rattle.pool_register.proofs.lists.copies.Given as goal

abbrev pub invariant-loop-member : goal.invariant-loop-member
invariant-loop-member l = l.out.items ≡ take l.member-index l.members
