use Rattle.std.proofs.Common.{sym, subst, List}
use Rattle.number_pools.specs.declared.rows.Member.{Member}
use Rattle.number_pools.specs.Keys.{AreKeys}
use Rattle.number_pools.specs.Rows.{member_id}
use Rattle.pool_rows.specs.Held.{Held, KeepsItsNumber}
use Rattle.pool_rows.proofs.KeysStay.{keys_with_edited_member}
use Rattle.pool_rows.proofs.Places.{is_there}
use Rattle.pool_rows.proofs.rows.PoolRows.edit_member.Goals as goal

pub put-requires-clause-fits : goal.put-requires-clause-fits
put-requires-clause-fits c =
    let keeps = subst (λ (h : Held). KeepsItsNumber h.pools c.args.member) (sym c.self.view_is) c.requires.keeps in
    is_there member_id c.self.inside.members.rows keeps.old c.args.member keeps.there

pub invariant_of-self : goal.invariant_of-self
invariant_of-self c =
    let now = c.self.inside in
    let keeps = subst (λ (h : Held). KeepsItsNumber h.pools c.args.member) (sym c.self.view_is) c.requires.keeps in
    let keys = keys_with_edited_member now.ranges.rows now.members.rows keeps.old c.args.member now.taken.blocks keeps.there keeps.range keeps.number c.self.invariant.0 in
    (subst (λ (ms : List Member). AreKeys now.ranges.rows ms now.taken.blocks) (sym c.put.ensures.rows) keys, c.self.invariant.1)
