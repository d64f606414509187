use Rattle.std.proofs.Common.{rules, sym, Ok, Err}
use Rattle.std.proofs.lemmas.List.Sorted.{answers_always}
use Rattle.ipam_keeper.proofs.Searching.{searched}
use Rattle.placed_book.proofs.RowPlaces.{look_at}
use Rattle.number_pools.specs.Rows.{range_id}
use Rattle.pool_opening.proofs.rules.range_of.Goals as goal

pub returns-in-Ok : goal.returns-in-Ok
returns-in-Ok c =
    let ranges = c.args.ranges.now in
    let by_id = c.in-Ok.ensures.position range_id (answers_always _ _ _ (λ f a r h called. search rules)) in
    let at = (searched range_id ranges c.args.id (Ok c.in-Ok.at) c.requires c.in-Ok.ensures.bound by_id).0 in
    sym (look_at range_id ranges c.args.id c.in-Ok.at c.index-ranges-at.result c.requires at c.index-ranges-at.is)

pub returns-in-Err : goal.returns-in-Err
returns-in-Err c =
    let ranges = c.args.ranges.now in
    let by_id = c.in-Err.ensures.position range_id (answers_always _ _ _ (λ f a r h called. search rules)) in
    let absent = (searched range_id ranges c.args.id (Err c.in-Err.field-0) c.requires c.in-Err.ensures.bound by_id).1 in
    sym absent.1
