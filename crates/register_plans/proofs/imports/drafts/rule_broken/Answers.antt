use Rattle.std.proofs.Common.{sym, ◌∙◌}
use Rattle.register_tables.specs.Held.{state_of}
use Rattle.register_plans.proofs.ImportRecords.{fault_named, fault_valued}
use Rattle.register_plans.proofs.imports.drafts.rule_broken.Goals as goal

pub returns-in-Some : goal.returns-in-Some
returns-in-Some c = sym (fault_named (state_of c.args.row_tables.now) c.args.row.now c.in-Some.rule (sym c.name_fault.ensures ∙ c.in-Some.is))

pub returns-in-None : goal.returns-in-None
returns-in-None c = c.value_fault.ensures ∙ sym (fault_valued (state_of c.args.row_tables.now) c.args.row.now (sym c.name_fault.ensures ∙ c.in-None.is))
