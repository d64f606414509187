use Rattle.std.proofs.Common.{◌∙◌, ap}
use Rattle.inet_num.specs.Net.{Address}
use Rattle.block_list.proofs.Changes.{times_middle}
use Rattle.block_list.proofs.search.times_in.Goals as goal

pub returns : goal.returns
returns c =
    c.count_equal.ensures
    ∙ times_middle c.args.block.now c.args.blocks.now c.beginning_in-from.result.0 c.beginning_in-from.result.1 c.value-first.result (c.value-first.ensures.value ∙ ap (λ (a : Address). a.value) c.first.ensures)
    c.beginning_in-from.ensures.order c.beginning_in-from.ensures.before c.beginning_in-from.ensures.behind
