use Rattle.std.proofs.Common.{◌≡◌, drop}
use Rattle.std.specs.List.{list_all}
use Rattle.csv.specs.Records.{fields_of}
use Rattle.csv_import.specs.Columns.{is_met}
use Rattle.csv_import.proofs.header.are_met.Given as goal

abbrev pub invariant-loop-column : goal.invariant-loop-column
invariant-loop-column l = list_all (is_met (fields_of l.header)) (drop l.column-index l.columns) ≡ list_all (is_met (fields_of l.header)) l.columns
