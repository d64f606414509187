use Rattle.register_tables.specs.Held.{state_of}
use Rattle.register_plans.proofs.ImportRecords.{checks_are}
use Rattle.register_plans.proofs.imports.one.refused.Goals as goal

pub returns : goal.returns
returns c = checks_are (state_of c.args.row_tables.now) c.args.draft.now c.args.view.now c.check_view.result c.requires.told c.requires.made c.check_view.ensures
