use Rattle.std.proofs.Common.{subst}
use Rattle.number_pools.specs.Rows.{member_id, range_id}
use Rattle.pool_register.specs.declared.planned.Update.{Update}
use Rattle.pool_register.specs.Planned.{CanUpdate}
use Rattle.pool_register.proofs.Edits.{id_from_one}
use Rattle.pool_register.proofs.books.put.Goals as goal

pub edit_range-requires-clause-id : goal.edit_range-requires-clause-id
edit_range-requires-clause-id c =
    let s = c.args.rows.now.pools in
    let can = subst (λ (u : Update). CanUpdate s u) c.in-EditRange.is c.requires.can in
    id_from_one range_id s.ranges.rows can.keeps.old c.in-EditRange.range.id c.requires.lawful.ranges.ordered can.keeps.there

pub edit_member-requires-clause-id : goal.edit_member-requires-clause-id
edit_member-requires-clause-id c =
    let s = c.args.rows.now.pools in
    let can = subst (λ (u : Update). CanUpdate s u) c.in-EditMember.is c.requires.can in
    id_from_one member_id s.members.rows can.keeps.old c.in-EditMember.member.id c.requires.lawful.members.ordered can.keeps.there
