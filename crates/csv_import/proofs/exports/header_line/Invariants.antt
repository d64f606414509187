use Rattle.std.proofs.Common.{◌≡◌, map, take}
use Rattle.csv.specs.Records.{fields_of}
use Rattle.ipam_data.specs.Answers.{field_text}
use Rattle.csv_import.specs.declared.columns.Column.{Column}
use Rattle.csv_import.proofs.exports.header_line.Given as goal

abbrev pub invariant-loop-column : goal.invariant-loop-column
invariant-loop-column l = fields_of l.names ≡ map (λ (c : Column). field_text c.name) (take l.column-index l.columns)
