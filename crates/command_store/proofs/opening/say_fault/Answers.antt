use Rattle.std.proofs.Common.{◌≡◌}
use Rattle.command_store.specs.FaultWords.{fault_line}
use Rattle.command_store.proofs.Refused.{of_tables, said_of_tables}
use Rattle.command_store.proofs.opening.say_fault.Goals as goal

pub returns-in-Ok : goal.returns-in-Ok
returns-in-Ok g c =
    let bytes = c.as_bytes.ensures.value in
    let line = c.in-Ok.ensures (of_tables c.args.fault.now c.in_default.not-Keeper c.in_default.not-Memory) in
    let is : c.as_bytes.result.now ≡ fault_line c.args.fault.now = cc in
    record { said = said_of_tables c.args.fault.now _ _ _ _ c.in_default.not-Keeper c.in_default.not-Memory is c.end_with-in-Ok.ensures.ends; later = c.end_with-in-Ok.ensures.later }
