-- What a lane in memory holds.
use Rattle.std.specs.Prelude.{option_map, ◌≡◌, ℕ, List, [], ◌∷◌, map, reverse, Option, Some, None, Result, Ok, Err}
use Rattle.ipam_edge.specs.declared.memory.BytesSource.{BytesSource}
use Rattle.ipam_edge.specs.declared.memory.BytesSink.{BytesSink}
use Rattle.ipam_edge.specs.Memory.{source_left, source_faults, sink_bytes, sink_faults}
use Rattle.ipam_listen.specs.Connections.{Connection, Ends, ends_of}
use Rattle.ipam_listen.specs.declared.list_lane.Handed.{Handed}
use Rattle.ipam_listen.specs.declared.list_lane.ListLane.{ListLane}

-- the ends of a pair in memory
abbrev pub ends_of_pair : BytesSource × BytesSink → Ends
ends_of_pair pair = ends_of (Some (source_left pair.0)) (Some (sink_bytes pair.1)) (source_faults pair.0) (sink_faults pair.1)

-- a connection that was handed out
abbrev pub connection_of : Handed → Connection
connection_of h = record { before = ends_of_pair h.was.value; after = option_map ends_of_pair h.is }

-- the pairs that wait, the first one first
abbrev pub lane_waiting : ListLane → List (BytesSource × BytesSink)
lane_waiting l = reverse l.waiting.items

-- the connections that it handed out
abbrev pub lane_told : ListLane → List Connection
lane_told l = map connection_of l.handed.items

-- the numbers of the accepts that fail, counted from 0
abbrev pub lane_fails : ListLane → List ℕ
lane_fails l = l.fails.items

-- how often it was asked, which is the number of the next accept; it stays at the last u64
abbrev pub lane_calls : ListLane → ℕ
lane_calls l = l.calls

-- how many accepts are left
abbrev pub lane_accepts : ListLane → ℕ
lane_accepts l = l.accepts

-- how many accepts failed; it stays at the last u64
abbrev pub lane_faults : ListLane → ℕ
lane_faults l = l.faults

-- the pair that an accept handed out, if it did
abbrev pub handed_by : {P E : Type 0} → Result (Option P) E → List P
handed_by (Ok (Some pair)) = pair ∷ []
handed_by (Ok None) = []
handed_by (Err e) = []

-- what taking a connection back leaves of the lane
pub record KeepsLane (old new : ListLane) : Type 0 where
  pub waiting : lane_waiting new ≡ lane_waiting old
  pub fails : lane_fails new ≡ lane_fails old
  pub calls : lane_calls new ≡ lane_calls old
