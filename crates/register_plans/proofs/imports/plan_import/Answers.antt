use Rattle.std.proofs.Common.{arith}
use Rattle.ipam_data.specs.Imports.{import_plan}
use Rattle.register_tables.specs.Held.{state_of}
use Rattle.register_plans.proofs.ImportPlans.{halt_by_row}
use Rattle.register_plans.proofs.imports.plan_import.Goals as goal

pub returns-in-Err-clause-plan : goal.returns-in-Err-clause-plan
returns-in-Err-clause-plan c =
    let s = state_of c.args.row_tables.now in
    c.stopped.ensures (import_plan s c.args.kind c.args.rows.now) (halt_by_row s c.args.kind c.args.rows.now (omega arith) c.in-Err.halt c.in-Err.ensures.halted)
