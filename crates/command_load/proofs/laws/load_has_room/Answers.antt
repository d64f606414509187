use Rattle.command_load.proofs.Room.{room}
use Rattle.command_load.proofs.laws.load_has_room.Goals as goal

pub returns : goal.returns
returns c = room
