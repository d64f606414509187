-- The lanes of a mirror: all that are wanted were handed out, or none is used.
use Rattle.std.specs.Prelude.{◌≡◌, ◌+◌, ◌++◌, ◌<◌, ℕ, List, [], All, length, Option, IfSome}
use Rattle.ipam_listen.specs.Connections.{Binding, Connection, Returned}
use Rattle.machine_serving.specs.Views.{ListenerView, ListeningFailed}

-- so many lanes were handed out, none with a connection yet, from a listener that is bound so
pub record HaveCome {L : Type 0} (told : L → Option (List Connection)) (binding : Binding) (wanted : ℕ) (before after : ListenerView) (came : List L) : Type 0 where
  pub fresh : All (λ lane. IfSome (told lane) (λ connections. connections ≡ [])) came
  pub many : length came ≡ wanted
  pub bound : after.bound ≡ binding
  pub lanes : after.lanes ≡ before.lanes + wanted
  pub returned : after.returned ≡ before.returned
  pub faults : after.faults ≡ before.faults

-- the listener could not be bound, or a lane was not handed out, so that fewer were handed out than were wanted; those that were
-- handed out were given back, and have no known connection
pub record HasNoLanes (binding : Binding) (wanted : ℕ) (before after : ListenerView) : Type 0 where
  pub failed : ListeningFailed before after
  pub back : List Returned
  pub returned : after.returned ≡ before.returned ++ back
  pub unused : All (λ r. IfSome r.told (λ connections. connections ≡ [])) back
  pub lanes : after.lanes ≡ before.lanes + length back
  pub fewer : 0 < wanted → length back < wanted
  pub bound : before.lanes < after.lanes → after.bound ≡ binding
