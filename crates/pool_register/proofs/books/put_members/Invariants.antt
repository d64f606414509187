use Rattle.std.specs.Vec.Iter.{into_iter_items, into_iter_len}
use Rattle.pool_register.specs.Planned.{with_members}
use Rattle.pool_register.proofs.Putting.{IsPutting}
use Rattle.pool_register.proofs.books.put_members.Given as goal

abbrev pub invariant-row : goal.invariant-row
invariant-row l = IsPutting (with_members l.fn.rows.pools l.fn.made.items) l.rows (into_iter_items l.rest)

abbrev pub decreases-row : goal.decreases-row
decreases-row l = into_iter_len l.rest
