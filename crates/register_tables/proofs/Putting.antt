-- Rows that are put one after another.
use Rattle.std.proofs.Common.{◌≡◌, List, fold}
use Rattle.ipam_data.specs.declared.replies.View.{View}
use Rattle.ipam_data.specs.State.{State}
use Rattle.ipam_data.specs.Updates.{with_view, AreFit}
use Rattle.register_tables.specs.Held.{Held, state_of, HasRoom}

-- the rows that are left lead where all of them lead, and they fit and have room
pub record IsPutting (first : State) (all : List View) (held : Held) (rest : List View) : Type 0 where
  pub leads : fold with_view (state_of held) rest ≡ fold with_view first all
  pub fits : AreFit (state_of held) rest
  pub room : HasRoom held rest
