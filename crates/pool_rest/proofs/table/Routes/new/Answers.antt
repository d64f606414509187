use Rattle.pool_rest.proofs.Adding.{none_added}
use Rattle.pool_rest.proofs.table.Routes.new.Goals as goal

pub invariant_of-result : goal.invariant_of-result
invariant_of-result c =
    let asns = c.in_ok-add_kind.ensures _ (none_added c.new-table.result c.new-table.ensures) in
    c.in_ok-add_kind-2.ensures _ asns
