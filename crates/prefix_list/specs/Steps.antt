-- What each step of the walk through two lists in address order adds to a set.
use Rattle.std.specs.Prelude.{◌≡◌, ℕ, ◌<◌, ◌≤◌, ◌↔◌, ◌⊎◌, false, IsTrue, List}
use Rattle.inet_num.specs.Net.{Cidr, HasAddress}
use Rattle.inet_num.specs.Free.{is_taken}
use Rattle.span_set.specs.Spans.{Spans, IsIn}

-- the set gained the numbers from one up to another
abbrev pub GainsUpTo : Spans → Spans → ℕ → ℕ → Type 0
GainsUpTo old set from to = (n : ℕ) → IsIn set n ↔ (IsIn old n ⊎ ((from ≤ n) × (n < to)))

-- the set has gained the block's numbers that the list does not take
abbrev pub HasRest : Spans → Spans → Cidr → List Cidr → Type 0
HasRest old set block by = (n : ℕ) → IsIn set n ↔ (IsIn old n ⊎ (HasAddress block n × (is_taken by n ≡ false)))

-- the list takes what another one does, from a number on
abbrev pub IsSameFrom : List Cidr → List Cidr → ℕ → Type 0
IsSameFrom left by from = (n : ℕ) → from ≤ n → is_taken left n ≡ is_taken by n

-- the set has the numbers of the one list that the other does not take
abbrev pub IsBeyond : Spans → List Cidr → List Cidr → Type 0
IsBeyond set have by = (n : ℕ) → IsIn set n ↔ (IsTrue (is_taken have n) × (is_taken by n ≡ false))
