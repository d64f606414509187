-- Which statuses count: names of statuses with commas between them, or all of them if none are named.
use Rattle.std.specs.Prelude.{◌≡◌, ℕ, ◌==◌, ◌||◌, Bool, true, List, Option, Some, None, codes, bytes_eq}
use Rattle.std.specs.List.{list_all, list_any, slice_split}
use Rattle.word_values.specs.declared.statuses.Statuses.{Statuses}

abbrev pub is_comma : ℕ → Bool
is_comma b = b == 44

-- a status of a prefix or an address has this name
abbrev pub is_status : List ℕ → Bool
is_status word = bytes_eq word (codes "container") || bytes_eq word (codes "active") || bytes_eq word (codes "reserved") || bytes_eq word (codes "deprecated")

-- each of the names between the commas is that of a status
abbrev pub are_statuses : List ℕ → Bool
are_statuses text = list_all is_status (slice_split is_comma text)

-- this name is one of them
abbrev pub has_name : List ℕ → List ℕ → Bool
has_name name text = list_any (bytes_eq name) (slice_split is_comma text)

abbrev pub all_statuses : Statuses
all_statuses = record { container = true; active = true; reserved = true; deprecated = true }

-- the statuses that are named
abbrev pub statuses_in : List ℕ → Statuses
statuses_in text = record {
  container = has_name (codes "container") text;
  active = has_name (codes "active") text;
  reserved = has_name (codes "reserved") text;
  deprecated = has_name (codes "deprecated") text;
}

-- the statuses that a text names, each of which is one; or all of them
abbrev pub IsStatusesValue : Option (List ℕ) → Statuses → Type 0
IsStatusesValue None statuses = statuses ≡ all_statuses
IsStatusesValue (Some text) statuses = (are_statuses text ≡ true) × (statuses ≡ statuses_in text)
