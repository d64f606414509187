use Rattle.std.proofs.Common.{length, ◌≤◌, ◌≡◌}
use Rattle.std.specs.Io.KnownBytes.{Consumes}
use Rattle.ipam_edge.proofs.whole.read_whole.Given as goal

abbrev pub invariant-pieces : goal.invariant-pieces
invariant-pieces g l = record {
  read : Consumes (g.So.Source.left l.initial.input) (g.So.Source.left l.input) l.bytes.items;
  few : length l.bytes.items ≤ l.most;
  same : g.So.Source.faults l.input ≡ g.So.Source.faults l.initial.input;
}
