use Rattle.number_laws.proofs.Edited.{edits_are_as_asked}
use Rattle.number_laws.proofs.edits_are_as_asked.Goals as goal

pub returns : goal.returns
returns c = edits_are_as_asked
