use Rattle.std.proofs.Common.{Option, refl, sym, ap, ◌∙◌}
use Rattle.number_pools.specs.declared.rows.NumberRange.{NumberRange}
use Rattle.number_pools.specs.Rows.{range_id}
use Rattle.pool_keeper.specs.Stored.{with_changed}
use Rattle.pool_keeper.proofs.Cuts.{is_first, is_none_changed}
use Rattle.pool_keeper.proofs.rows.change_range.Goals as goal

pub returns-in-Some-range_place-clause-rows : goal.returns-in-Some-range_place-clause-rows
returns-in-Some-range_place-clause-rows c =
    let rows = c.args.rows.now.items in
    let row = c.in-Some.row in
    let found = rw c.as_slice.ensures.value at c.range_place.ensures in
    (is_first range_id row.id rows c.in-Some-range_place.at (sym c.in-Some-range_place.is ∙ found)).changed row refl
    ∙ sym (ap (λ (o : Option NumberRange). with_changed range_id o rows) c.in-Some.is)

pub returns-in-None-clause-rows : goal.returns-in-None-clause-rows
returns-in-None-clause-rows c =
    let rows = c.args.rows.now.items in
    let row = c.in-Some.row in
    let found = rw c.as_slice.ensures.value at c.range_place.ensures in
    is_none_changed range_id row.id rows row refl (sym c.in-None.is ∙ found) ∙ sym (ap (λ (o : Option NumberRange). with_changed range_id o rows) c.in-Some.is)
