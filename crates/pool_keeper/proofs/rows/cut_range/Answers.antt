use Rattle.std.proofs.Common.{ℕ, Option, sym, ap, ◌∙◌}
use Rattle.number_pools.specs.Rows.{range_id}
use Rattle.pool_keeper.specs.Stored.{without_first}
use Rattle.pool_keeper.proofs.Cuts.{is_first, is_none}
use Rattle.pool_keeper.proofs.rows.cut_range.Goals as goal

pub returns-in-Some-range_place-clause-rows : goal.returns-in-Some-range_place-clause-rows
returns-in-Some-range_place-clause-rows c =
    let rows = c.args.rows.now.items in
    let found = rw c.as_slice.ensures.value at c.range_place.ensures in
    c.remove.ensures.items ∙ (is_first range_id c.in-Some.id rows c.in-Some-range_place.at (sym c.in-Some-range_place.is ∙ found)).cut
    ∙ sym (ap (λ (o : Option ℕ). without_first range_id o rows) c.in-Some.is)

pub returns-in-None-clause-rows : goal.returns-in-None-clause-rows
returns-in-None-clause-rows c =
    let rows = c.args.rows.now.items in
    let found = rw c.as_slice.ensures.value at c.range_place.ensures in
    is_none range_id c.in-Some.id rows (sym c.in-None.is ∙ found) ∙ sym (ap (λ (o : Option ℕ). without_first range_id o rows) c.in-Some.is)
