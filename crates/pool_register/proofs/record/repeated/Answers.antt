use Rattle.std.proofs.Common.{sym, ◌∙◌}
use Rattle.pool_register.proofs.Records.{repeated_is}
use Rattle.pool_register.proofs.record.repeated.Goals as goal

pub returns-then-has_number : goal.returns-then-has_number
returns-then-has_number c = repeated_is c.args.before.now c.args.number _ (sym c.if-has_number.true ∙ c.has_number.ensures)

pub returns-else-has_number : goal.returns-else-has_number
returns-else-has_number c = repeated_is c.args.before.now c.args.number _ (sym c.if-has_number.false ∙ c.has_number.ensures)
