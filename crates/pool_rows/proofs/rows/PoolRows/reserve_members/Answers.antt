use Rattle.std.proofs.Common.{ap, arith, length}
use Rattle.pool_rows.specs.Held.{Held}
use Rattle.pool_rows.proofs.KeysStay.{keys_length}
use Rattle.pool_rows.proofs.rows.PoolRows.reserve_members.Goals as goal

pub reserve-requires-2 : goal.reserve-requires-2
reserve-requires-2 c =
    let keys = keys_length c.self.inside.ranges.rows c.self.inside.members.rows c.self.inside.taken.blocks c.self.invariant.0 in
    let members = ap (λ (h : Held). length h.pools.members.rows) c.self.view_is in
    let few = c.requires in
    omega arith
