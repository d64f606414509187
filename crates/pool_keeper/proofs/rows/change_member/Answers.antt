use Rattle.std.proofs.Common.{Option, refl, sym, ap, ◌∙◌}
use Rattle.number_pools.specs.declared.rows.Member.{Member}
use Rattle.number_pools.specs.Rows.{member_id}
use Rattle.pool_keeper.specs.Stored.{with_changed}
use Rattle.pool_keeper.proofs.Cuts.{is_first, is_none_changed}
use Rattle.pool_keeper.proofs.rows.change_member.Goals as goal

pub returns-in-Some-member_place-clause-rows : goal.returns-in-Some-member_place-clause-rows
returns-in-Some-member_place-clause-rows c =
    let rows = c.args.rows.now.items in
    let row = c.in-Some.row in
    let found = rw c.as_slice.ensures.value at c.member_place.ensures in
    (is_first member_id row.id rows c.in-Some-member_place.at (sym c.in-Some-member_place.is ∙ found)).changed row refl
    ∙ sym (ap (λ (o : Option Member). with_changed member_id o rows) c.in-Some.is)

pub returns-in-None-clause-rows : goal.returns-in-None-clause-rows
returns-in-None-clause-rows c =
    let rows = c.args.rows.now.items in
    let row = c.in-Some.row in
    let found = rw c.as_slice.ensures.value at c.member_place.ensures in
    is_none_changed member_id row.id rows row refl (sym c.in-None.is ∙ found) ∙ sym (ap (λ (o : Option Member). with_changed member_id o rows) c.in-Some.is)
