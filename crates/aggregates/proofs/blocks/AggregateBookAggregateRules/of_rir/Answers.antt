use Rattle.std.proofs.Common.{◌≡◌, ◌==◌, ◌∙◌, sym, ap, arith, Option, Some, None, option_map}
use Rattle.ipam_data.specs.declared.aggregate.Aggregate.{Aggregate}
use Rattle.ipam_data.specs.Rows.{aggregate_id}
use Rattle.placed_book.proofs.Searches.{some_within, take_no, take_yes}
use Rattle.aggregates.proofs.blocks.AggregateBookAggregateRules.of_rir.Goals.{in-Some+else-is_of, in_default}
use Rattle.aggregates.proofs.blocks.AggregateBookAggregateRules.of_rir.Goals as goal

pub returns-then-is_of : goal.returns-then-is_of
returns-then-is_of g c =
    sym (ap (λ (o : Option Aggregate). option_map aggregate_id o)
    (take_yes (λ (row : Aggregate). row.rir == c.args.rir) c.args.self.now.rows c.rows.index c.in-Some.row.now (sym c.in-Some.ensures) (sym c.is_of.ensures ∙ c.if-is_of.true) c.rows.invariant))

pub rows-preserved : goal.rows-preserved
rows-preserved g c = elim c.match-at.branch [
  | in-Some+else-is_of w ↦ take_no (λ (row : Aggregate). row.rir == c.args.rir) c.args.self.now.rows c.rows.index w.in-Some.row.now (sym w.in-Some.ensures) (sym w.is_of.ensures ∙ w.if-is_of.false) c.rows.invariant
  | in_default w ↦ (let some = some_within c.args.self.now.rows c.rows.index (omega arith) in let wrong : None ≡ Some some.0 = w.in_default.ensures ∙ some.1 in cc)
]
