use Rattle.std.proofs.Common.{◌∙◌, ap}
use Rattle.inet_num.specs.Net.{Address}
use Rattle.block_list.proofs.Changes.{counting_middle, rises_middle}
use Rattle.block_list.proofs.beginning_inside.Goals as goal

pub returns-clause-rises : goal.returns-clause-rises
returns-clause-rises c = rises_middle c.args.blocks.now _ _ c.requires

pub returns-clause-counting : goal.returns-clause-counting
returns-clause-counting c = λ strict.
    counting_middle c.args.within strict c.args.blocks.now c.beginning_in-from.result.0 c.beginning_in-from.result.1 c.value.result c.value-2.result (c.value.ensures.value ∙ ap (λ (a : Address). a.value) c.first.ensures)
    (c.value-2.ensures.value ∙ ap (λ (a : Address). a.value) c.last.ensures) c.beginning_in-from.ensures.order c.beginning_in-from.ensures.before c.beginning_in-from.ensures.behind
