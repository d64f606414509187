use Rattle.rest_routes.proofs.Adding.{none_added}
use Rattle.rest_routes.proofs.table.Routes.new.Goals as goal

pub invariant_of-result : goal.invariant_of-result
invariant_of-result c =
    let vrfs = c.in_ok-add_kind.ensures _ (none_added c.new-table.result c.new-table.ensures) in
    let rirs = c.in_ok-add_kind-2.ensures _ vrfs in
    let roles = c.in_ok-add_kind-3.ensures _ rirs in
    let aggregates = c.in_ok-add_kind-4.ensures _ roles in
    let prefixes = c.in_ok-add_kind-5.ensures _ aggregates in
    let ranges = c.in_ok-add_kind-6.ensures _ prefixes in
    let addresses = c.in_ok-add_kind-7.ensures _ ranges in
    let prefix_blocks = c.in_ok-add_part.ensures _ addresses in
    let prefix_addresses = c.in_ok-add_part-2.ensures _ prefix_blocks in
    let range_addresses = c.in_ok-add_part-3.ensures _ prefix_addresses in
    let prefix_figures = c.in_ok-add_part-4.ensures _ range_addresses in
    let range_figures = c.in_ok-add_part-5.ensures _ prefix_figures in
    c.in_ok-add_part-6.ensures _ range_figures
