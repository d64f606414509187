use Rattle.std.proofs.Common.{◌≡◌, Some, sym}
use Rattle.pool_opening.specs.Faults.{fault_of}
use Rattle.pool_opening.proofs.Accepted.{never_refused}
use Rattle.pool_opening.proofs.faults.opened.Goals as goal

-- the tables of lawful pools have no fault
pub returns-in-Ok-Some-clause-taken : goal.returns-in-Ok-Some-clause-taken
returns-in-Ok-Some-clause-taken c = λ s h e.
    let said : fault_of c.args.tables ≡ Some c.in-Ok-Some.fault = sym (rw c.in-Ok-Some.field-0-is at c.in-Ok-Some.ensures) in
    absurd (never_refused c.args.tables s c.in-Ok-Some.fault h e said)
