use Rattle.std.proofs.Common.{◌≡◌, map, take}
use Rattle.register_tables.specs.Held.{state_of}
use Rattle.register_claims.specs.PlaceDigits.{placed_row}
use Rattle.register_claims.proofs.surveys.placed_lines.Given as goal

abbrev pub invariant-prefixes : goal.invariant-prefixes
invariant-prefixes l = l.placed.items ≡ map (placed_row (state_of l.row_tables)) (take l.index l.row_tables.prefixes.rows)
