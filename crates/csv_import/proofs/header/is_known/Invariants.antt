use Rattle.std.proofs.Common.{◌≡◌, drop, get_or, []}
use Rattle.csv.specs.Records.{fields_of}
use Rattle.csv_import.specs.Columns.{is_column}
use Rattle.csv_import.proofs.header.is_known.Given as goal

abbrev pub invariant-loop-column : goal.invariant-loop-column
invariant-loop-column l = is_column (drop l.column-index l.columns) (get_or (fields_of l.header) l.i []) ≡ is_column l.columns (get_or (fields_of l.header) l.i [])
