use Rattle.std.proofs.Common.{◌≡◌, ◌==◌, None, find, take}
use Rattle.ipam_data.specs.declared.aggregate.Aggregate.{Aggregate}
use Rattle.aggregates.proofs.blocks.AggregateBookAggregateRules.of_rir.Given as goal

abbrev pub invariant-rows : goal.invariant-rows
invariant-rows g l = find (λ (row : Aggregate). row.rir == l.rir) (take l.index l.self.rows) ≡ None
