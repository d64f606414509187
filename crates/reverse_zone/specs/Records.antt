-- Lines of a zone file: OWNER [TTL] IN PTR NAME (RFC 1035 5.1), with all its parts written out.
use Rattle.std.specs.Prelude.{◌≡◌, ℕ, ◌==◌, ◌||◌, ◌&&◌, nat_le, nat_lt, Bool, true, Option, Some, None, List, [], ◌∷◌, ◌++◌, length, codes, bytes_eq, map, IsTrue, if◌then◌else◌}
use Rattle.std.specs.Char.{to_ascii_lowercase, is_ascii_digit}
use Rattle.std.specs.List.{filter, list_all, slice_split}
use Rattle.inet_num.specs.Net.{Address, IsAddress}
use Rattle.reverse_zone.specs.declared.record.Pair.{Pair}
use Rattle.reverse_zone.specs.Owners.{owner_of}
use Rattle.reverse_zone.specs.Names.{fits_dns}

-- the line that is written of a host and its name
abbrev pub line_of : Address → List ℕ → List ℕ
line_of host name = owner_of host ++ codes " IN PTR " ++ name ++ codes ".\n"

-- a space or a tab
abbrev pub is_blank : ℕ → Bool
is_blank c = c == 32 || c == 9

-- the words of a line are what is between its blanks
abbrev pub words_of : List ℕ → List (List ℕ)
words_of line = filter (λ word. nat_lt 0 (length word)) (slice_split is_blank line)

-- a time to live has one to ten digits
abbrev pub is_ttl : List ℕ → Bool
is_ttl word = nat_le 1 (length word) && nat_le (length word) 10 && list_all is_ascii_digit word

-- the class and the type of a PTR record
abbrev pub is_in_ptr : List ℕ → List ℕ → Bool
is_in_ptr class kind = bytes_eq class (codes "in") && bytes_eq kind (codes "ptr")

-- the owner and the name among a record's words: OWNER IN PTR NAME, or OWNER TTL IN PTR NAME
abbrev pub fields_of : List (List ℕ) → Option (List ℕ × List ℕ)
fields_of (owner ∷ class ∷ kind ∷ name ∷ []) = if is_in_ptr class kind then Some (owner, name) else None
fields_of (owner ∷ ttl ∷ class ∷ kind ∷ name ∷ []) = if is_ttl ttl && is_in_ptr class kind then Some (owner, name) else None
fields_of _ = None

-- the words, in lower case, are the record of an address and a name: the owner is that of the address, and the last word is the name
-- with its final period
pub record IsRecord (words : List (List ℕ)) (pair : Pair) : Type 0 where
  pub fields : fields_of words ≡ Some (owner_of pair.host, pair.name ++ codes ".")
  pub host : IsAddress pair.host
  pub name : IsTrue (fits_dns pair.name)

-- letters of either case are read: the words of the line in lower case are the record
abbrev pub IsRecordOf : List ℕ → Pair → Type 0
IsRecordOf line pair = IsRecord (words_of (map to_ascii_lowercase line)) pair

-- an empty line and a comment are skipped
abbrev pub is_skipped : List ℕ → Bool
is_skipped [] = true
is_skipped (c ∷ _) = c == 59
