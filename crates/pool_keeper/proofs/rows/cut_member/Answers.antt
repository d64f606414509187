use Rattle.std.proofs.Common.{ℕ, Option, sym, ap, ◌∙◌}
use Rattle.number_pools.specs.Rows.{member_id}
use Rattle.pool_keeper.specs.Stored.{without_first}
use Rattle.pool_keeper.proofs.Cuts.{is_first, is_none}
use Rattle.pool_keeper.proofs.rows.cut_member.Goals as goal

pub returns-in-Some-member_place-clause-rows : goal.returns-in-Some-member_place-clause-rows
returns-in-Some-member_place-clause-rows c =
    let rows = c.args.rows.now.items in
    let found = rw c.as_slice.ensures.value at c.member_place.ensures in
    c.remove.ensures.items ∙ (is_first member_id c.in-Some.id rows c.in-Some-member_place.at (sym c.in-Some-member_place.is ∙ found)).cut
    ∙ sym (ap (λ (o : Option ℕ). without_first member_id o rows) c.in-Some.is)

pub returns-in-None-clause-rows : goal.returns-in-None-clause-rows
returns-in-None-clause-rows c =
    let rows = c.args.rows.now.items in
    let found = rw c.as_slice.ensures.value at c.member_place.ensures in
    is_none member_id c.in-Some.id rows (sym c.in-None.is ∙ found) ∙ sym (ap (λ (o : Option ℕ). without_first member_id o rows) c.in-Some.is)
