use Rattle.std.specs.Vec.Iter.{into_iter_items, into_iter_len}
use Rattle.pool_rows.proofs.Filling.{IsFilling}
use Rattle.pool_rows.proofs.opening.put_all.Given as goal

abbrev pub invariant-row : goal.invariant-row
invariant-row l = IsFilling l.fn.rows.items l.book.rows (into_iter_items l.rest) l.book.spare

abbrev pub decreases-row : goal.decreases-row
decreases-row l = into_iter_len l.rest
