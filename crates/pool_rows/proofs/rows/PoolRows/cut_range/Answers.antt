use Rattle.std.proofs.Common.{ap, sym, subst, List, Contains}
use Rattle.number_pools.specs.declared.rows.NumberRange.{NumberRange}
use Rattle.number_pools.specs.declared.rows.Member.{Member}
use Rattle.number_pools.specs.Keys.{AreKeys}
use Rattle.pool_rows.specs.Held.{Held}
use Rattle.pool_rows.proofs.KeysStay.{keys_without_range}
use Rattle.pool_rows.proofs.rows.PoolRows.cut_range.Goals as goal

pub invariant_of-self : goal.invariant_of-self
invariant_of-self c =
    let now = c.self.inside in
    let members = ap (λ (h : Held). h.pools.members.rows) c.self.view_is in
    let keys = keys_without_range now.ranges.rows now.members.rows c.args.id now.taken.blocks (λ m k. c.requires.unused m (subst (λ (ms : List Member). Contains ms m) members k)) c.self.invariant.0 in
    (subst (λ (rs : List NumberRange). AreKeys rs now.members.rows now.taken.blocks) (sym c.cut.ensures.rows) keys, c.self.invariant.1)
