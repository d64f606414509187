-- How the text of a parameter is read. `None` is one that is malformed; an absent one has its default.
use Rattle.std.specs.Prelude.{◌≡◌, ◌≢◌, ℕ, ◌<◌, ◌≤◌, ◌^◌, ◌==◌, ◌||◌, nat_lt, Bool, true, false, List, codes, decimal, bytes_eq, Option, Some, None, option_map, if◌then◌else◌}
use Rattle.inet_num.specs.declared.Family.{Family}
use Rattle.inet_num.specs.declared.Family.TheVariants.{V4, V6}
use Rattle.inet_num.specs.Net.{Address, Cidr, width_of, block_at}
use Rattle.inet_num.specs.Text.{IsBlockText, IsAddressText, IsNoAddressText}
use Rattle.rest_query.specs.declared.asked.Available.{Available}
use Rattle.rest_query.specs.declared.asked.Available.TheVariants.{Blocks, Addrs}

-- a family is the number of its version
abbrev pub family_named : List ℕ → Option Family
family_named text = if bytes_eq text (codes "4") then Some V4 else (if bytes_eq text (codes "6") then Some V6 else None)

-- a parameter that is given is read so, and no parameter is no test
abbrev pub test_of : {A : Type 0} → (List ℕ → Option A) → Option (List ℕ) → Option (Option A)
test_of read None = Some None
test_of read (Some text) = option_map Some (read text)

-- an id is a number from 1 to 4294967295, in decimal, without a leading zero
abbrev pub HasId : List ℕ → Option (Option (Option ℕ)) → Type 0
HasId text None = (n : ℕ) → 1 ≤ n → n < 2 ^ 32 → text ≢ decimal n
HasId text (Some None) = ⊥
HasId text (Some (Some None)) = ⊥
HasId text (Some (Some (Some n))) = (text ≡ decimal n) × (1 ≤ n) × (n < 2 ^ 32)

-- if the text is `null`, those are meant that have none
abbrev pub HasIdOrNull : Bool → List ℕ → Option (Option (Option ℕ)) → Type 0
HasIdOrNull true text id = id ≡ Some (Some None)
HasIdOrNull false text id = HasId text id

abbrev pub IsIdTest : Option (List ℕ) → Option (Option (Option ℕ)) → Type 0
IsIdTest None id = id ≡ Some None
IsIdTest (Some text) id = HasIdOrNull (bytes_eq text (codes "null")) text id

-- an id alone, if each row has one
abbrev pub IsRowTest : Option (List ℕ) → Option (Option ℕ) → Type 0
IsRowTest None id = id ≡ Some None
IsRowTest (Some text) None = (n : ℕ) → 1 ≤ n → n < 2 ^ 32 → text ≢ decimal n
IsRowTest (Some text) (Some None) = ⊥
IsRowTest (Some text) (Some (Some n)) = (text ≡ decimal n) × (1 ≤ n) × (n < 2 ^ 32)

-- a block
abbrev pub IsBlockTest : Option (List ℕ) → Option (Option Cidr) → Type 0
IsBlockTest None block = block ≡ Some None
IsBlockTest (Some text) None = (b : Cidr) → ¬ IsBlockText text b
IsBlockTest (Some text) (Some None) = ⊥
IsBlockTest (Some text) (Some (Some b)) = IsBlockText text b

-- the text is that of this block, or of none
abbrev pub HasBlock : List ℕ → Option Cidr → Type 0
HasBlock text (Some b) = IsBlockText text b
HasBlock text None = (b : Cidr) → ¬ IsBlockText text b

-- this block; if there is none, that of an address alone, which has its family's width
abbrev pub IsAreaOf : Option Cidr → List ℕ → Option (Option Cidr) → Type 0
IsAreaOf (Some b) text area = area ≡ Some (Some b)
IsAreaOf None text None = IsNoAddressText text
IsAreaOf None text (Some None) = ⊥
IsAreaOf None text (Some (Some b)) = (a : Address) × IsAddressText text a × (b ≡ block_at a (width_of a.family))

-- a block or an address
abbrev pub IsAreaTest : Option (List ℕ) → Option (Option Cidr) → Type 0
IsAreaTest None area = area ≡ Some None
IsAreaTest (Some text) area = (block : Option Cidr) × HasBlock text block × IsAreaOf block text area

-- at most so many things are listed
abbrev pub most_listed : ℕ
most_listed = 1000

-- a limit of 0 and each above the most count as the most
abbrev pub limit_of : ℕ → ℕ
limit_of n = if n == 0 || nat_lt most_listed n then most_listed else n

-- so many things are listed if no limit is given, but available blocks, which are listed up to the most
abbrev pub default_limit : ℕ
default_limit = 50

abbrev pub available_limit : Available → ℕ
available_limit Blocks = most_listed
available_limit Addrs = default_limit

-- a limit is a number of at most ten digits, in decimal, without a leading zero; an absent one is the default
abbrev pub IsLimit : ℕ → Option (List ℕ) → Option ℕ → Type 0
IsLimit default None limit = limit ≡ Some default
IsLimit default (Some text) None = (n : ℕ) → n < 10000000000 → text ≢ decimal n
IsLimit default (Some text) (Some limit) = (n : ℕ) × (text ≡ decimal n) × (n < 10000000000) × (limit ≡ limit_of n)

-- an offset is a number up to 4294967295 likewise; an absent one is 0
abbrev pub IsOffset : Option (List ℕ) → Option ℕ → Type 0
IsOffset None offset = offset ≡ Some 0
IsOffset (Some text) None = (n : ℕ) → n < 2 ^ 32 → text ≢ decimal n
IsOffset (Some text) (Some n) = (text ≡ decimal n) × (n < 2 ^ 32)
