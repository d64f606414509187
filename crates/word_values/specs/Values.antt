-- What the text of an option says, if there is one.
use Rattle.std.specs.Prelude.{◌≡◌, ◌≢◌, ℕ, ◌≤◌, List, [], Option, Some, None, decimal, codes, bytes_eq, ◌||◌, if◌then◌else◌}

-- the most workers, and the most connections of a worker
abbrev pub most_workers : ℕ
most_workers = 32

abbrev pub most_connections : ℕ
most_connections = 1000000000

-- a number from 1 to the most, in decimal without a leading zero
abbrev pub IsNumberValue : ℕ → Option (List ℕ) → ℕ → Type 0
IsNumberValue most None n = ⊥
IsNumberValue most (Some text) n = (text ≡ decimal n) × (1 ≤ n) × (n ≤ most)

-- such a number, or the usual one if there is none
abbrev pub IsNumberOr : ℕ → ℕ → Option (List ℕ) → ℕ → Type 0
IsNumberOr usual most None n = n ≡ usual
IsNumberOr usual most (Some text) n = IsNumberValue most (Some text) n

-- any text but the empty one
abbrev pub IsTextValue : Option (List ℕ) → List ℕ → Type 0
IsTextValue None found = ⊥
IsTextValue (Some text) found = (found ≡ text) × (text ≢ [])

-- such a text, or none if there is none
abbrev pub IsTextOrNone : Option (List ℕ) → Option (List ℕ) → Type 0
IsTextOrNone text found = (found ≡ text) × (text ≢ Some [])

-- the name of a command by its first word: two commands have other names too
abbrev pub main_name : List ℕ → List ℕ
main_name word =
    if bytes_eq word (codes "--version") || bytes_eq word (codes "-V") then codes "version"
    else if bytes_eq word (codes "--help") || bytes_eq word (codes "-h") then codes "help"
    else word
