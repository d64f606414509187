use Rattle.command_load.proofs.Notes.{one_noted, notes_tally}
use Rattle.command_load.proofs.Others.{others_claim}
use Rattle.command_load.proofs.laws.notes_of_one.Goals as goal

pub returns : goal.returns
returns c = record { more = one_noted; tally = notes_tally; others = others_claim }
