-- What a source and a sink over a stream hold.
use Rattle.std.specs.Prelude.{ℕ}
use Rattle.ipam_edge.specs.declared.streams.StdSource.{StdSource}
use Rattle.ipam_edge.specs.declared.streams.StdSink.{StdSink}

-- the stream that is read
abbrev pub source_stream : {R : Type 0} → StdSource R → R
source_stream s = s.stream

-- how many reads failed; it stays at the last u64
abbrev pub source_stream_faults : {R : Type 0} → StdSource R → ℕ
source_stream_faults s = s.faults

-- the stream that is written
abbrev pub sink_stream : {W : Type 0} → StdSink W → W
sink_stream s = s.stream

-- how many writes failed; it stays at the last u64
abbrev pub sink_stream_faults : {W : Type 0} → StdSink W → ℕ
sink_stream_faults s = s.faults
