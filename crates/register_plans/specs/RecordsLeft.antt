-- What is left of the records of an import.
use Rattle.std.specs.Prelude.{◌≡◌, ℕ, ◌-◌, List, Option, Some, None, bytes_eq, count_by, if◌then◌else◌}
use Rattle.std.specs.List.{list_any}
use Rattle.std.specs.HashMap.{get_by_text}
use Rattle.register_plans.specs.declared.imports.leftovers.Leftovers.{Leftovers}

-- how many records with this key are left, if the key is one of the import's
abbrev pub left_of : Leftovers → List ℕ → Option ℕ
left_of left q = get_by_text left.counts q

-- each of the import's keys has as many records left as records have it, less those that rows were found to represent
abbrev pub IsLeft : Leftovers → List (List ℕ) → List (List ℕ) → List (List ℕ) → Type 0
IsLeft left keys records spent = (q : List ℕ)
    → left_of left q ≡ (if list_any (bytes_eq q) keys then Some (count_by (bytes_eq q) records - count_by (bytes_eq q) spent) else None)
