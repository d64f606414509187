use Rattle.std.proofs.Common.{ap, sym, subst, List, ◌∙◌}
use Rattle.number_pools.specs.declared.rows.NumberRange.{NumberRange}
use Rattle.number_pools.specs.Keys.{AreKeys}
use Rattle.number_pools.specs.Lawful.{IsLawfulPools}
use Rattle.number_pools.specs.Rows.{Pools}
use Rattle.pool_rows.specs.Held.{Held}
use Rattle.pool_rows.proofs.KeysStay.{keys_with_range}
use Rattle.pool_rows.proofs.rows.PoolRows.put_range.Goals as goal

pub invariant_of-self : goal.invariant_of-self
invariant_of-self c =
    let now = c.self.inside in
    let pools = ap (λ (h : Held). h.pools) c.self.view_is in
    let s : Pools = record { ranges = record { rows = now.ranges.rows; next = now.next_range }; members = record { rows = now.members.rows; next = now.next_member }; spent = now.spent } in
    let lawful : IsLawfulPools s = subst IsLawfulPools (sym pools) c.requires.lawful in
    let keys = keys_with_range s c.args.range now.taken.blocks lawful (c.requires.id ∙ sym (ap (λ (p : Pools). p.ranges.next) pools)) c.self.invariant.0 in
    (subst (λ (rs : List NumberRange). AreKeys rs now.members.rows now.taken.blocks) (sym c.put.ensures.rows) keys, c.self.invariant.1)
