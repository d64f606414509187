use Rattle.std.proofs.Common.{sym, ◌∙◌, None}
use Rattle.register_plans.proofs.Verdicts.{names_none, names_all}
use Rattle.register_tables.specs.Held.{state_of}
use Rattle.register_plans.proofs.calls.broken.Goals as goal

pub returns-in-Some : goal.returns-in-Some
returns-in-Some g c = sym (names_none g.T.Listed.rules (state_of c.args.row_tables.now) None c.args.row.now c.in-Some.rule (sym c.missing.ensures ∙ c.in-Some.is))

pub returns-in-None : goal.returns-in-None
returns-in-None g c = c.fault_new.ensures ∙ sym (names_all g.T.Listed.rules (state_of c.args.row_tables.now) None c.args.row.now (sym c.missing.ensures ∙ c.in-None.is))
