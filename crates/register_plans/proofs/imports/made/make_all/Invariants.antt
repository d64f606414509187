use Rattle.std.proofs.Common.{◌≡◌}
use Rattle.ipam_data.specs.Lawful.{IsLawful}
use Rattle.register_tables.specs.Held.{state_of}
use Rattle.register_plans.specs.UndoneRecords.{IsAhead}
use Rattle.register_plans.proofs.ImportLoops.{HasComeTo}
use Rattle.register_plans.proofs.imports.made.make_all.Given as goal

abbrev pub invariant-loop-row : goal.invariant-loop-row
invariant-loop-row l = record {
  come : HasComeTo (state_of l.fn.row_tables) l.fn.kind l.lines l.row-index (state_of l.row_tables) l.made.items l.left;
  lawful : IsLawful (state_of l.row_tables);
  ahead : IsAhead (state_of l.fn.row_tables) l.fn.kind (state_of l.row_tables);
  number : l.n ≡ l.row-index;
}
