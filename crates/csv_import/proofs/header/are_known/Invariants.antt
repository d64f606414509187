use Rattle.std.proofs.Common.{◌≡◌, drop}
use Rattle.std.specs.List.{list_all}
use Rattle.csv.specs.Records.{fields_of}
use Rattle.csv_import.specs.Columns.{is_column}
use Rattle.csv_import.proofs.header.are_known.Given as goal

abbrev pub invariant-loop-i : goal.invariant-loop-i
invariant-loop-i l = list_all (is_column l.columns) (drop l.i (fields_of l.header)) ≡ list_all (is_column l.columns) (fields_of l.header)
