-- Addresses and blocks of IPv4 and IPv6 (RFC 4632 3.1 for IPv4's prefixes, RFC 4291 2.3 for IPv6's).
-- An address is a number below two to the family's width; a block is an aligned set of addresses.
use Rattle.std.specs.Prelude.{◌≡◌, ◌≢◌, ℕ, ◌+◌, ◌-◌, ◌/◌, ◌*◌, ◌%◌, ◌^◌, ◌<◌, ◌≤◌}
use Rattle.inet_num.specs.declared.Family.{Family}
use Rattle.inet_num.specs.declared.Family.TheVariants.{V4, V6}

-- how many bits an address of the family has
abbrev pub width_of : Family → ℕ
width_of V4 = 32
width_of V6 = 128

-- what contracts see of an `Addr`
pub record Address : Type 0 where
  pub family : Family
  pub value : ℕ

-- the number is one of the family's
abbrev pub IsAddress : Address → Type 0
IsAddress a = a.value < 2 ^ width_of a.family

-- what contracts see of a `Block`: its family, its first address and how many bits its addresses share
pub record Cidr : Type 0 where
  pub family : Family
  pub first : ℕ
  pub len : ℕ

-- how many addresses a block has
abbrev pub size_of : Cidr → ℕ
size_of b = 2 ^ (width_of b.family - b.len)

-- a block's first address is a multiple of its size, and lies in its family
pub record IsBlock (b : Cidr) : Type 0 where
  pub short : b.len ≤ width_of b.family
  pub aligned : b.first % size_of b ≡ 0
  pub in_range : b.first < 2 ^ width_of b.family

-- the block has the address of its family with this number
abbrev pub HasAddress : Cidr → ℕ → Type 0
HasAddress b a = (b.first ≤ a) × (a < b.first + size_of b)

-- each address of the inner block is one of the outer
pub record IsInside (inner outer : Cidr) : Type 0 where
  pub family : inner.family ≡ outer.family
  pub each : (a : ℕ) → HasAddress inner a → HasAddress outer a

-- and the two are not one
pub record IsStrictlyInside (inner outer : Cidr) : Type 0 where
  pub inside : IsInside inner outer
  pub other : inner ≢ outer

-- the two blocks of the next length that make up a block
abbrev pub low_half_of : Cidr → Cidr
low_half_of b = record { family = b.family; first = b.first; len = b.len + 1 }

abbrev pub high_half_of : Cidr → Cidr
high_half_of b = record { family = b.family; first = b.first + 2 ^ (width_of b.family - (b.len + 1)); len = b.len + 1 }

-- the enclosing block of one length less; a block of length 0 has none
abbrev pub enclosing_of : Cidr → Cidr
enclosing_of b =
    let size = 2 ^ (width_of b.family - (b.len - 1)) in
    record { family = b.family; first = b.first / size * size; len = b.len - 1 }

-- an address with a length after it
abbrev pub block_at : Address → ℕ → Cidr
block_at a len = record { family = a.family; first = a.value; len = len }

-- that with the bits past the length cleared
abbrev pub block_around : Address → ℕ → Cidr
block_around a len =
    let size = 2 ^ (width_of a.family - len) in
    record { family = a.family; first = a.value / size * size; len = len }

-- the first address of a block and the last one
abbrev pub first_of : Cidr → Address
first_of b = record { family = b.family; value = b.first }

abbrev pub last_of : Cidr → Address
last_of b = record { family = b.family; value = b.first + size_of b - 1 }
