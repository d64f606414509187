use Rattle.rest_query.proofs.Areas.{no_block}
use Rattle.rest_query.proofs.readings.block_of.Goals as goal

pub returns-in-Err : goal.returns-in-Err
returns-in-Err c = λ b. no_block c.args.text.now _ b _ c.as_bytes.ensures.value c.in-Err.ensures.fault
