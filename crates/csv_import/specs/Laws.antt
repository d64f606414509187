-- What bytes represent is one answer.
use Rattle.std.specs.Prelude.{◌≡◌, ℕ, List, Result}
use Rattle.ipam_data.specs.declared.kinds.Kind.{Kind}
use Rattle.ipam_data.specs.declared.replies.Refusal.{Refusal}
use Rattle.ipam_data.specs.declared.imports.ImportRow.{ImportRow}
use Rattle.csv_import.specs.Files.{IsFileOf}

-- the bytes of a file have one answer: their rows, or one refusal; so each is returned exactly if the definition gives it
abbrev pub FileIsOne : Type 0
FileIsOne = (kind : Kind) (bytes : List ℕ) (a b : Result (List ImportRow) Refusal) → IsFileOf kind bytes a → IsFileOf kind bytes b → a ≡ b
