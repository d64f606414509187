use Rattle.std.proofs.Common.{rules}
use Rattle.pool_json.proofs.Told.{one_more}
use Rattle.pool_json.proofs.rows.put_each_number.Goals as goal

pub loop-number-preserved : goal.loop-number-preserved
loop-number-preserved c =
    one_more c.args.numbers.now c.loop-number.number-index _ c.loop-number.invariant c.in_ok-put_one_number.ensures c.loop-number-test.true (search rules)
