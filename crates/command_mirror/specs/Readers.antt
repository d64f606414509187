-- Readers before their work and after it, and what is said of the lanes that they leave.
use Rattle.std.specs.Prelude.{◌≡◌, ◌<◌, ◌≤◌, ℕ, List, [], ◌∷◌, All, length, Option, Some, IfSome, slice_index_or}
use mathlib.Core.List.{IsPrefix}
use Rattle.ipam_data.specs.declared.update.Update.{Update}
use Rattle.ipam_listen.specs.Connections.{Connection, Returned}
use Rattle.http_lanes.specs.Served.{AreServed, HasServed, IsServedWhole}
use Rattle.snapshot_rows.specs.Lists.{Lists}
use Rattle.snapshot_reads.specs.Seen.{FeedView}
use Rattle.snapshot_session.specs.Reads.{Seen, answers_read}

-- a look of a feed, before the first change
abbrev pub look_of : FeedView Lists Update → Seen
look_of feed = record { book = feed.book; opening = feed.opening; seen = []; told = [] }

-- a reader with a look, whose lane has handed out no connection yet, if they are known
pub record IsReady {L : Type 0} (told : L → Option (List Connection)) (look : Option Seen) (lane : L) : Type 0 where
  pub now : Seen
  pub has : look ≡ Some now
  pub fresh : IfSome (told lane) (λ connections. connections ≡ [])

-- a reader with this look
pub record IsFresh {L : Type 0} (told : L → Option (List Connection)) (first : Seen) (look : Option Seen) (lane : L) : Type 0 where
  pub has : look ≡ Some first
  pub none_told : IfSome (told lane) (λ connections. connections ≡ [])

-- a reader was so and is so: the connections of its lane, which has no accept left, were answered from its look
pub record HasRead {L : Type 0} (told : L → Option (List Connection)) (accepts faults : L → ℕ) (old : Option Seen) (lane_old : L) (new : Option Seen) (lane_new : L) : Type 0 where
  pub before : Seen
  pub after : Seen
  pub had : old ≡ Some before
  pub has : new ≡ Some after
  pub served : HasServed answers_read before after (told lane_new)
  pub none_left : accepts lane_new ≡ 0
  pub later : faults lane_old ≤ faults lane_new

-- each of them, with its look and its lane
abbrev pub AllHaveRead : {L X : Type 0} → (L → Option (List Connection)) → (L → ℕ) → (L → ℕ) → (X → Option Seen) → (X → L) → List X → List X → Type 0
AllHaveRead {X = X} told accepts faults look lane old new =
    (i : ℕ) (r : X) → i < length old
    → HasRead told accepts faults (look (slice_index_or old i r)) (lane (slice_index_or old i r)) (look (slice_index_or new i r)) (lane (slice_index_or new i r))

-- a reader whose look was the first one before its work
pub record IsRead {L : Type 0} (told : L → Option (List Connection)) (accepts : L → ℕ) (first : Seen) (look : Option Seen) (lane : L) : Type 0 where
  pub last : Seen
  pub has : look ≡ Some last
  pub served : HasServed answers_read first last (told lane)
  pub none_left : accepts lane ≡ 0

-- connections were answered from one look, one after another, and all that it had seen at the end of each begins these changes
abbrev pub AreWithin : List Update → List Connection → Seen → Seen → Type 0
AreWithin published [] s t = t ≡ s
AreWithin published (c ∷ cs) s t = (mid : Seen) × IsServedWhole answers_read c s mid × IsPrefix mid.seen published × AreWithin published cs mid t

-- the connections of a lane that was given back were answered, one after another, from one look: at the opening lists, as more and more changes
-- left them. All that it had seen at the end of each connection begins the published changes
pub record IsReadLane (opening : Option Lists) (published : List Update) (r : Returned) : Type 0 where
  pub first : Seen
  pub last : Seen
  pub opening_is : first.opening ≡ opening
  pub none_seen : first.seen ≡ []
  pub connections : List Connection
  pub told_are : IfSome r.told (λ all. all ≡ connections)
  pub served : AreServed answers_read connections first last
  pub begins : IsPrefix last.seen published
  pub each : AreWithin published connections first last
  pub none_left : r.accepts ≡ 0

abbrev pub AreReadLanes : Option Lists → List Update → List Returned → Type 0
AreReadLanes opening published lanes = All (IsReadLane opening published) lanes
