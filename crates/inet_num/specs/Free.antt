-- What of a block is free given a list of blocks of its family, and its available blocks: the largest free blocks,
-- in address order, as an operator reads them off a register.
use Rattle.std.specs.Prelude.{◌≡◌, ℕ, ◌+◌, ◌%◌, ◌<◌, ◌≤◌, Bool, false, not, ◌&&◌, ◌==◌, nat_lt, nat_le, List, [], ◌∷◌, Contains, filter, map, if◌then◌else◌}
use Rattle.std.specs.List.{list_any, flat_map, AllByRecursion}
use Rattle.inet_num.specs.Net.{width_of, Cidr, IsBlock, size_of, HasAddress, IsInside, enclosing_of}
use Rattle.inet_num.specs.Count.{numbers_from, addresses_of}

-- the block has the address, as a test
abbrev pub has_address : Cidr → ℕ → Bool
has_address b a = nat_le b.first a && nat_lt a (b.first + size_of b)

-- some block of the list has the address
abbrev pub is_taken : List Cidr → ℕ → Bool
is_taken blocks a = list_any (λ c. has_address c a) blocks

-- none of the block's addresses is taken
abbrev pub IsFree : List Cidr → Cidr → Type 0
IsFree blocks b = (a : ℕ) → HasAddress b a → is_taken blocks a ≡ false

-- a free block inside, whose enclosing block is not both inside and free
pub record IsAvailable (within : Cidr) (blocks : List Cidr) (b : Cidr) : Type 0 where
  pub lawful : IsBlock b
  pub inside : IsInside b within
  pub free : IsFree blocks b
  pub largest : 0 < b.len → IsInside (enclosing_of b) within → ¬ IsFree blocks (enclosing_of b)

-- ---- the same as tests, and the list that they pick out

-- the two blocks have an address in common
abbrev pub meets : Cidr → Cidr → Bool
meets b c = nat_lt b.first (c.first + size_of c) && nat_lt c.first (b.first + size_of b)

-- no block of the list has an address of this one
abbrev pub is_free : List Cidr → Cidr → Bool
is_free blocks b = not (list_any (meets b) blocks)

-- the first address is a multiple of the size
abbrev pub is_aligned : Cidr → Bool
is_aligned b = b.first % size_of b == 0

-- each address of the inner block is one of the outer, which has the same family
abbrev pub is_inside : Cidr → Cidr → Bool
is_inside inner outer = nat_le outer.first inner.first && nat_le (inner.first + size_of inner) (outer.first + size_of outer)

abbrev pub is_available : Cidr → List Cidr → Cidr → Bool
is_available within blocks b =
    is_aligned b && is_inside b within && is_free blocks b
    && not (nat_lt 0 b.len && is_inside (enclosing_of b) within && is_free blocks (enclosing_of b))

-- what would be a block at this first address, of each length from 0 to the width
unfoldable pub blocks_at : Cidr → ℕ → List Cidr
blocks_at within a = map (λ l. record { family = within.family; first = a; len = l }) (numbers_from 0 (width_of within.family + 1))

-- the block, if it is available, and else nothing
abbrev pub picked_of : Cidr → List Cidr → Cidr → List Cidr
picked_of within blocks b = if is_available within blocks b then b ∷ [] else []

-- the available blocks that begin at this address
unfoldable pub picked_at : Cidr → List Cidr → ℕ → List Cidr
picked_at within blocks a = filter (is_available within blocks) (blocks_at within a)

-- the available blocks of a block given a list of blocks of its family, in address order
unfoldable pub available_blocks_of : Cidr → List Cidr → List Cidr
available_blocks_of within blocks = flat_map (picked_at within blocks) (addresses_of within)

-- ---- what makes that list the one meant

-- each block begins where the one before it ends, or after it
abbrev pub InOrder : ℕ → List Cidr → Type 0
InOrder from [] = Unit {0}
InOrder from (b ∷ bs) = (from ≤ b.first) × InOrder (b.first + size_of b) bs

-- these are the available blocks, each once, in address order
pub record ListsAvailable (within : Cidr) (blocks bs : List Cidr) : Type 0 where
  pub each : AllByRecursion (IsAvailable within blocks) bs
  pub complete : (b : Cidr) → IsAvailable within blocks b → Contains bs b
  pub ordered : InOrder within.first bs

-- the list of the tests is the available blocks, and no other list is
pub record AvailableBlocksAreThose : Type 0 where
  pub lists : (within : Cidr) (blocks : List Cidr) → IsBlock within → ListsAvailable within blocks (available_blocks_of within blocks)
  pub only : (within : Cidr) (blocks bs : List Cidr) → IsBlock within → ListsAvailable within blocks bs → bs ≡ available_blocks_of within blocks
