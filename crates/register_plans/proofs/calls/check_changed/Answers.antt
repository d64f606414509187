use Rattle.std.proofs.Common.{sym, ◌∙◌, ap, Option}
use Rattle.register_plans.specs.Broken.{first_broken}
use Rattle.register_plans.proofs.Verdicts.{changed_broken, changed_logged}
use Rattle.register_tables.specs.Held.{state_of}
use Rattle.register_plans.proofs.calls.check_changed.Goals as goal

pub returns-in-Some : goal.returns-in-Some
returns-in-Some g c = λ old e.
    sym (changed_broken g.T.Listed.rules (state_of c.args.row_tables.now) old c.args.row.now c.in-Some.rule
    (sym (ap (λ (o : Option _). first_broken g.T.Listed.rules (state_of c.args.row_tables.now) o c.args.row.now) e) ∙ sym c.broken_changed.ensures ∙ c.in-Some.is))

pub returns : goal.returns
returns g c = λ old e.
    changed_logged g.T.Listed.rules (state_of c.args.row_tables.now) old c.args.row.now c.no_log_for_one.result
    (sym (ap (λ (o : Option _). first_broken g.T.Listed.rules (state_of c.args.row_tables.now) o c.args.row.now) e) ∙ sym c.broken_changed.ensures ∙ c.in_default.is) (rw c.spent.ensures at c.no_log_for_one.ensures)
