-- What is seen of a listener, before a command and after it.
use Rattle.std.specs.Prelude.{◌≡◌, ℕ, List}
use Rattle.ipam_edge.specs.Faults.{Rose}
use Rattle.ipam_listen.specs.Connections.{Binding, Returned}

-- what it was bound to last, a place and how many connections each lane may accept; how many lanes it handed out; the lanes that were given
-- back; and its count of faults
pub record ListenerView : Type 0 where
  pub bound : Binding
  pub lanes : ℕ
  pub returned : List Returned
  pub faults : ℕ

-- what is known of the listener, by the members of its trait
abbrev pub listener_view : {L : Type 0} → (L → Binding) → (L → ℕ) → (L → List Returned) → (L → ℕ) → L → ListenerView
listener_view bound lanes returned faults listener =
    record { bound = bound listener; lanes = lanes listener; returned = returned listener; faults = faults listener }

-- it failed meanwhile, or a lane that it took back had failed
abbrev pub ListeningFailed : ListenerView → ListenerView → Type 0
ListeningFailed before after = Rose before.faults after.faults

-- neither it nor a lane failed
abbrev pub NoneFailed : ListenerView → ListenerView → Type 0
NoneFailed before after = after.faults ≡ before.faults

-- no lane was handed out, and none was given back
pub record NobodyCame (before after : ListenerView) : Type 0 where
  pub lanes : after.lanes ≡ before.lanes
  pub returned : after.returned ≡ before.returned
