-- What the source and the sink in memory hold.
use Rattle.std.specs.Prelude.{◌≡◌, ◌+◌, ◌-◌, ◌^◌, ◌++◌, ◌↔◌, min, ℕ, List, [], drop, Option, IsNone, Contains, unwrap_or}
use Rattle.ipam_edge.specs.declared.memory.BytesSource.{BytesSource}
use Rattle.ipam_edge.specs.declared.memory.BytesSink.{BytesSink}

-- the bytes that were not read yet
abbrev pub source_left : BytesSource → List ℕ
source_left s = drop s.at s.bytes.items

-- the numbers of the reads that fail, counted from 0
abbrev pub source_fails : BytesSource → List ℕ
source_fails s = s.fails.items

-- the most bytes that a read gives
abbrev pub source_piece : BytesSource → ℕ
source_piece s = s.piece

-- how often it was read, which is the number of the next read; it stays at the last u64
abbrev pub source_calls : BytesSource → ℕ
source_calls s = s.calls

-- how many reads failed; it stays at the last u64
abbrev pub source_faults : BytesSource → ℕ
source_faults s = s.faults

-- what was chosen for the source stays
pub record KeepsSource (old new : BytesSource) : Type 0 where
  pub fails : source_fails new ≡ source_fails old
  pub piece : source_piece new ≡ source_piece old

-- a read: the next call has the next number, it fails exactly if its own number is among those given, and what it gives is taken off
pub record IsSourceRead (old : BytesSource) (given : Option (List ℕ)) (new : BytesSource) : Type 0 where
  pub number : source_calls new ≡ min (source_calls old + 1) (2 ^ 64 - 1)
  pub fails : IsNone given ↔ Contains (source_fails old) (source_calls old)
  pub left : source_left old ≡ unwrap_or given [] ++ source_left new
  pub kept : KeepsSource old new

-- the bytes that were written
abbrev pub sink_bytes : BytesSink → List ℕ
sink_bytes s = s.bytes.items

-- the numbers of the writes that fail, counted from 0
abbrev pub sink_fails : BytesSink → List ℕ
sink_fails s = s.fails.items

-- the most bytes that a write takes
abbrev pub sink_piece : BytesSink → ℕ
sink_piece s = s.piece

-- how many bytes it has room for, from the first
abbrev pub sink_room : BytesSink → ℕ
sink_room s = s.room

-- how often it was written to, which is the number of the next write; it stays at the last u64
abbrev pub sink_calls : BytesSink → ℕ
sink_calls s = s.calls

-- how many writes failed; it stays at the last u64
abbrev pub sink_faults : BytesSink → ℕ
sink_faults s = s.faults

-- what was chosen for the sink stays
pub record KeepsSink (old new : BytesSink) : Type 0 where
  pub fails : sink_fails new ≡ sink_fails old
  pub piece : sink_piece new ≡ sink_piece old
  pub room : sink_room new ≡ sink_room old
