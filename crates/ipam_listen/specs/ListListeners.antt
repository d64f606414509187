-- What a listener in memory holds.
use Rattle.std.specs.Prelude.{◌≡◌, ℕ, List, ◌∷◌, reverse, Some}
use Rattle.ipam_listen.specs.Connections.{Binding, Returned, binding}
use Rattle.ipam_listen.specs.ListLanes.{lane_told, lane_accepts}
use Rattle.ipam_listen.specs.declared.list_lane.ListLane.{ListLane}
use Rattle.ipam_listen.specs.declared.list_listener.ListListener.{ListListener}

-- a lane that was given back
abbrev pub returned_lane : ListLane → Returned
returned_lane l = record { told = Some (lane_told l); accepts = lane_accepts l }

-- the lanes that wait, the first one first
abbrev pub listener_waiting : ListListener → List ListLane
listener_waiting l = reverse l.waiting.items

-- the lanes that were given back
abbrev pub listener_returned : ListListener → List ListLane
listener_returned l = l.back.items

-- what it is bound to: a place, and how many connections each lane may accept
abbrev pub listener_binding : ListListener → Binding
listener_binding l = binding l.place.items l.bound

-- how many lanes were handed out
abbrev pub listener_lanes : ListListener → ℕ
listener_lanes l = l.lanes

-- how often it failed; it stays at the last u64
abbrev pub listener_faults : ListListener → ℕ
listener_faults l = l.faults

-- the first lane that waits was handed out, with as many accepts as the listener is bound with
pub record IsHandedLane (old new : ListListener) (lane : ListLane) : Type 0 where
  pub first : ListLane
  pub waiting : listener_waiting old ≡ first ∷ listener_waiting new
  pub lane_is : lane ≡ record first { accepts = (listener_binding old).connections }
