use Rattle.std.proofs.Common.{◌∙◌}
use Rattle.pool_rest.proofs.Adding.{row_added}
use Rattle.pool_rest.proofs.table.add_row.Goals as goal

pub returns : goal.returns
returns c =
    row_added c.args.base c.as_str.result.now c.args.table.now c.add_around.new.self c.add_around.result
    (c.as_str.ensures.value ∙ c.in_ok-front.ensures) c.add_around.ensures.ok
