-- Where a block of a length can be put inside a block, and the lowest such place from an address on.
use Rattle.std.specs.Prelude.{◌≡◌, ℕ, ◌<◌, ◌≤◌, List, Option, MatchOption}
use Rattle.inet_num.specs.Net.{Cidr, IsBlock, IsInside}
use Rattle.inet_num.specs.Free.{IsAvailable}

-- a block of this length inside
pub record IsPlace (within : Cidr) (len : ℕ) (b : Cidr) : Type 0 where
  pub lawful : IsBlock b
  pub len_is : b.len ≡ len
  pub inside : IsInside b within

-- the lowest place that does not begin before the address, or that none is left
abbrev pub IsNextPlace : Cidr → ℕ → ℕ → Option Cidr → Type 0
IsNextPlace within len from r =
    MatchOption r ((c : Cidr) → IsPlace within len c → c.first < from)
    (λ b. IsPlace within len b × (from ≤ b.first) × ((c : Cidr) → IsPlace within len c → from ≤ c.first → b.first ≤ c.first))

-- an available block around a block
pub record IsAround (within : Cidr) (blocks : List Cidr) (b m : Cidr) : Type 0 where
  pub available : IsAvailable within blocks m
  pub inside : IsInside b m
