use Rattle.std.specs.Vec.Iter.{into_iter_items, into_iter_len}
use Rattle.pool_rows.proofs.Filling.{IsAdmitting}
use Rattle.pool_rows.proofs.rows.PoolRows.admit_all.Given as goal

abbrev pub invariant-row : goal.invariant-row
invariant-row l = IsAdmitting l.fn.self.pools l.fn.members.items l.self (into_iter_items l.rest)

abbrev pub decreases-row : goal.decreases-row
decreases-row l = into_iter_len l.rest
