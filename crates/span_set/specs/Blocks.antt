-- The largest blocks of a set of addresses in order, no shorter list of blocks has just its addresses; and how they are the
-- available blocks of a block.
use Rattle.std.specs.Prelude.{◌≡◌, ℕ, ◌+◌, ◌≤◌, ◌↔◌, false, IsTrue, List, length, Contains}
use Rattle.std.specs.List.{AllByRecursion}
use Rattle.inet_num.specs.declared.Family.{Family}
use Rattle.inet_num.specs.Net.{Cidr, Address, IsBlock, size_of, HasAddress, block_at}
use Rattle.inet_num.specs.Free.{InOrder, is_taken, available_blocks_of}
pub use Rattle.inet_num.specs.Fewest.{AllIn, IsLargest, HaveJust}
use Rattle.span_set.specs.Spans.{Spans, IsIn}

-- all largest blocks of the set, each once, in address order: the fewest that have just its addresses
pub record ListsLargest (family : Family) (set : ℕ → Type 0) (bs : List Cidr) : Type 0 where
  pub each : AllByRecursion (IsLargest family set) bs
  pub complete : (b : Cidr) → IsLargest family set b → Contains bs b
  pub ordered : InOrder 0 bs

-- and each address of the set is in one of them
pub record IsFewest (family : Family) (set : ℕ → Type 0) (bs : List Cidr) : Type 0 where
  pub lists : ListsLargest family set bs
  pub covers : (a : ℕ) → set a → IsTrue (is_taken bs a)

-- no list of blocks that has just the set's addresses is shorter
abbrev pub NoneIsShorter : Family → (ℕ → Type 0) → List Cidr → Type 0
NoneIsShorter family set bs = (cs : List Cidr) → HaveJust family set cs → length bs ≤ length cs

-- the block of this length at this address is lawful and ends at the last number or before
pub record FitsAt (first : Address) (last len : ℕ) : Type 0 where
  pub lawful : IsBlock (block_at first len)
  pub within : first.value + size_of (block_at first len) ≤ last + 1

-- the set has just the block's addresses that are not taken
abbrev pub IsRest : Spans → Cidr → List Cidr → Type 0
IsRest set within blocks = (a : ℕ) → IsIn set a ↔ (HasAddress within a × (is_taken blocks a ≡ false))

-- the fewest blocks of such a set are the block's available ones
abbrev pub FewestAreAvailable : Type 0
FewestAreAvailable = (set : Spans) (within : Cidr) (blocks bs : List Cidr) → IsBlock within → set.family ≡ within.family → IsRest set within blocks
    → ListsLargest set.family (IsIn set) bs → bs ≡ available_blocks_of within blocks
