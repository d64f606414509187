use Rattle.std.proofs.Common.{◌∙◌}
use Rattle.pool_rest.proofs.Adding.{part_added}
use Rattle.pool_rest.proofs.table.add_part.Goals as goal

pub returns : goal.returns
returns c =
    part_added c.args.part c.args.kind c.as_str.result.now c.as_str-2.result.now c.args.table.now c.add_around.new.self c.add_around.result
    (c.as_str.ensures.value ∙ c.in_ok-front.ensures) (c.as_str-2.ensures.value ∙ c.in_ok-end.ensures) c.add_around.ensures.ok
