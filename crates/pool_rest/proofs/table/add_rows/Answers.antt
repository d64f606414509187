use Rattle.std.proofs.Common.{◌∙◌}
use Rattle.pool_rest.proofs.Adding.{rows_added}
use Rattle.pool_rest.proofs.table.add_rows.Goals as goal

pub returns : goal.returns
returns c =
    rows_added c.args.base c.as_str.result.now c.args.table.now c.add_whole.new.self c.add_whole.result
    (c.as_str.ensures.value ∙ c.in_ok-front.ensures) c.add_whole.ensures.ok
