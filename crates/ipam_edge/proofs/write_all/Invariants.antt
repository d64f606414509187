use Rattle.std.proofs.Common.{length, take, ◌-◌, ◌≤◌, ◌≡◌}
use Rattle.std.specs.Io.KnownBytes.{Appends}
use Rattle.ipam_edge.specs.Writing.{ByWrites}
use Rattle.ipam_edge.proofs.write_all.Given as goal

abbrev pub invariant-loop-done : goal.invariant-loop-done
invariant-loop-done g l = (l.done ≤ length l.bytes) × Appends (g.S.Sink.written l.initial.sink) (g.S.Sink.written l.sink) (take l.done l.bytes)
    × (g.S.Sink.faults l.sink ≡ g.S.Sink.faults l.initial.sink) × ByWrites g.S.Sink.writes l.initial.sink l.sink

abbrev pub decreases-loop-done : goal.decreases-loop-done
decreases-loop-done g l = length l.bytes - l.done
