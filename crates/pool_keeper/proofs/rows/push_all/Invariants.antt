use Rattle.std.proofs.Common.{◌≡◌, ◌+◌, ◌≤◌, ◌++◌, vec_len, vec_capacity}
use Rattle.std.specs.Vec.Iter.{into_iter_items, into_iter_len}
use Rattle.pool_keeper.proofs.rows.push_all.Given as goal

abbrev pub invariant-loop-row : goal.invariant-loop-row
invariant-loop-row g l = record {
  leads : l.rows.items ++ into_iter_items l.rest ≡ l.fn.rows.items ++ l.fn.news.items;
  room : vec_len l.rows + into_iter_len l.rest ≤ vec_capacity l.rows;
}

abbrev pub decreases-loop-row : goal.decreases-loop-row
decreases-loop-row g l = into_iter_len l.rest
