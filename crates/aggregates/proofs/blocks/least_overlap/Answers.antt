use Rattle.std.proofs.Common.{◌≡◌, ◌∙◌, sym, ap, arith, Option, Some, None, option_map}
use Rattle.ipam_data.specs.declared.aggregate.Aggregate.{Aggregate}
use Rattle.ipam_data.specs.RowList.{is_rival}
use Rattle.ipam_data.specs.Rows.{aggregate_id}
use Rattle.ipam_data.specs.Aggregates.{overlaps}
use Rattle.placed_book.proofs.Searches.{some_within, take_no, take_yes}
use Rattle.aggregates.proofs.blocks.least_overlap.Goals.{in-Some+else-is_overlapping, in_default}
use Rattle.aggregates.proofs.blocks.least_overlap.Goals as goal

pub returns-then-is_overlapping : goal.returns-then-is_overlapping
returns-then-is_overlapping g c =
    sym (ap (λ (o : Option Aggregate). option_map aggregate_id o)
    (take_yes (is_rival aggregate_id overlaps c.args.row.now) c.args.book.now.rows c.rows.index c.in-Some.other.now (sym c.in-Some.ensures) (sym c.is_overlapping.ensures ∙ c.if-is_overlapping.true) c.rows.invariant))

pub rows-preserved : goal.rows-preserved
rows-preserved g c = elim c.match-at.branch [
  | in-Some+else-is_overlapping w ↦ take_no (is_rival aggregate_id overlaps c.args.row.now) c.args.book.now.rows c.rows.index w.in-Some.other.now (sym w.in-Some.ensures) (sym w.is_overlapping.ensures ∙ w.if-is_overlapping.false) c.rows.invariant
  | in_default w ↦ (let some = some_within c.args.book.now.rows c.rows.index (omega arith) in let wrong : None ≡ Some some.0 = w.in_default.ensures ∙ some.1 in cc)
]
