use Rattle.std.proofs.Common.{◌≡◌, ℕ, ◌↔◌, IsTrue, take}
use Rattle.inet_num.specs.declared.Family.TheVariants.{V4}
use Rattle.number_pools.specs.Free.{is_held}
use Rattle.span_set.specs.Runs.{IsBetween}
use Rattle.span_set.specs.Spans.{IsIn}
use Rattle.pool_report.proofs.free.free_set.Given as goal

abbrev pub invariant-member : goal.invariant-member
invariant-member l = (l.set.family ≡ V4)
    × ((n : ℕ) → IsIn l.set n ↔ (IsBetween l.range.first l.range.last n × ¬ IsTrue (is_held l.rows.pools.ranges.rows (take l.member-index l.rows.pools.members.rows) l.pool n)))
