-- What a connection over TCP counts of a request, how long it waits for it, and what is known of a lane.
use Rattle.std.specs.Prelude.{◌≡◌, ◌<◌, ◌≤◌, ◌+◌, ◌-◌, ◌*◌, ◌^◌, ◌⊎◌, ◌↔◌, ℕ, min, Option, Some, None, IfSome, IsSome}
use Rattle.std.specs.Duration.{as_nanos}
use Rattle.std.specs.declared.time.Duration.{Duration}
use Rattle.ipam_listen.specs.Connections.{Returned}
use Rattle.ipam_listen.specs.Patience.{allowed_nanos}
use Rattle.ipam_listen.specs.declared.tcp.TcpIn.{TcpIn}

-- the clock of a request: when it began, in nanoseconds from the beginning of the connection, and how many bytes of it were read
pub record RequestClock : Type 0 where
  pub since : ℕ
  pub bytes : ℕ

-- the clock of the request that a client is sending
abbrev pub request_clock : {R S : Type 0} → TcpIn R S → RequestClock
request_clock s = record { since = as_nanos s.since; bytes = s.bytes }

-- if the client was answered at this time, its next request begins then, and no byte of it was read
abbrev pub begun : {R S : Type 0} → Option Duration → TcpIn R S → TcpIn R S
begun None s = s
begun (Some at) s = record s { since = at; bytes = 0 }

-- the request goes on, or the client was answered and its next one begins
abbrev pub Begins : RequestClock → RequestClock → Type 0
Begins old from = (from ≡ old) ⊎ (from.bytes ≡ 0)

-- so many bytes were read of the request that goes on or begins; the count stays at the last value of a u64
pub record CountsOn (old new : RequestClock) (n : ℕ) : Type 0 where
  pub from : RequestClock
  pub begins : Begins old from
  pub since : new.since ≡ from.since
  pub bytes : new.bytes ≡ min (from.bytes + n) (2 ^ 64 - 1)

-- what the client has left for its request at a time: it and the time since the request began are the base time and a second for every 500
-- bytes of the request; there is none once as much time has passed
pub record IsLeft (base : ℕ) (clock : RequestClock) (now : ℕ) (left : Option Duration) : Type 0 where
  pub some : IfSome left (λ d. as_nanos d + (now - clock.since) ≡ allowed_nanos base clock.bytes)
  pub variant : IsSome left ↔ (now - clock.since < allowed_nanos base clock.bytes)

-- a time-out of so many seconds is longer than what the client had left at a time, by a second at most
pub record IsLonger (left : Duration) (seconds : ℕ) : Type 0 where
  pub most : seconds * 10 ^ 9 ≤ as_nanos left + 10 ^ 9
  pub least : seconds < 2 ^ 64 - 1 → as_nanos left < seconds * 10 ^ 9

-- a read waits for what the request has left at some time, and the client has some left then
pub record WaitsInTime (base : ℕ) (clock : RequestClock) (timeout : Option ℕ) : Type 0 where
  pub now : ℕ
  pub left : Duration
  pub is_left : IsLeft base clock now (Some left)
  pub seconds : ℕ
  pub is_set : timeout ≡ Some seconds
  pub longer : IsLonger left seconds

-- a lane with so many accepts left, of whose connections nothing is known
abbrev pub returned_door : ℕ → Returned
returned_door accepts = record { told = None; accepts = accepts }
