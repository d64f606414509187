use Rattle.std.proofs.Common.{ℕ, List, ◌≡◌}
use Rattle.std.specs.Io.KnownBytes.{Consumes}
use Rattle.command_free.specs.Reading.{IsReading}
use Rattle.command_free.proofs.lines.read_children.Given as goal

abbrev pub invariant-pieces : goal.invariant-pieces
invariant-pieces g l = record {
  read : (bytes : List ℕ) × Consumes (g.So.Source.left l.initial.input) (g.So.Source.left l.input) bytes × IsReading l.within bytes l.lines;
  same : g.So.Source.faults l.input ≡ g.So.Source.faults l.initial.input;
}
