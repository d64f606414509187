use Rattle.number_pools.proofs.Frees.{are_singles}
use Rattle.pool_rows.proofs.rows.PoolRows.taken.Goals as goal

pub returns-clause-singles : goal.returns-clause-singles
returns-clause-singles c = are_singles c.self.inside.ranges.rows c.self.inside.members.rows c.self.inside.taken.blocks c.self.invariant.0
