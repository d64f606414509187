use Rattle.std.proofs.Common.{List, Ok, sym, ◌∙◌, ap}
use Rattle.serde_json.specs.View.{view}
use Rattle.number_pools.specs.declared.calls.Chosen.{Chosen}
use Rattle.pool_json.proofs.Recording.{chosen_more, chosen_refused}
use Rattle.pool_json.proofs.records.chosen_in.Goals as goal

pub loop-value-preserved : goal.loop-value-preserved
loop-value-preserved c =
    chosen_more c.args.kind view c.args.list.now c.loop-value.value-index c.value-item.result c.loop-value.items.items c.in-Ok.item c.loop-value-test.true c.value-item.is
    c.loop-value.invariant c.in-Ok.ensures
    ∙ ap (λ (items : List Chosen). Ok items) (sym c.in-Ok-push.ensures.items)

pub returns-in-Err : goal.returns-in-Err
returns-in-Err c =
    chosen_refused c.args.kind view c.args.list.now c.loop-value.value-index c.value-item.result c.loop-value.items.items c.in-Err.refusal c.loop-value-test.true c.value-item.is
    c.loop-value.invariant c.in-Err.ensures
