use Rattle.std.proofs.Common.{sym, subst, List}
use Rattle.number_pools.specs.declared.rows.NumberRange.{NumberRange}
use Rattle.number_pools.specs.Keys.{AreKeys}
use Rattle.pool_rows.specs.Held.{Held, KeepsItsKind}
use Rattle.pool_rows.proofs.KeysStay.{keys_with_edited_range}
use Rattle.pool_rows.proofs.Places.{is_there}
use Rattle.number_pools.specs.Rows.{range_id}
use Rattle.pool_rows.proofs.rows.PoolRows.edit_range.Goals as goal

pub put-requires-clause-fits : goal.put-requires-clause-fits
put-requires-clause-fits c =
    let keeps = subst (λ (h : Held). KeepsItsKind h.pools c.args.range) (sym c.self.view_is) c.requires.keeps in
    is_there range_id c.self.inside.ranges.rows keeps.old c.args.range keeps.there

pub invariant_of-self : goal.invariant_of-self
invariant_of-self c =
    let now = c.self.inside in
    let keeps = subst (λ (h : Held). KeepsItsKind h.pools c.args.range) (sym c.self.view_is) c.requires.keeps in
    let keys = keys_with_edited_range now.ranges.rows now.members.rows keeps.old c.args.range now.taken.blocks keeps.there keeps.kind c.self.invariant.0 in
    (subst (λ (rs : List NumberRange). AreKeys rs now.members.rows now.taken.blocks) (sym c.put.ensures.rows) keys, c.self.invariant.1)
