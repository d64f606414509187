-- The fewest aligned blocks of a set of addresses: those that are largest, that is in the set with the enclosing block
-- (of one length less, RFC 4632 3.1) not in it.
use Rattle.std.specs.Prelude.{◌≡◌, ℕ, ◌<◌, ◌≤◌, Bool, IsTrue, List, length}
use Rattle.std.specs.List.{AllByRecursion}
use Rattle.inet_num.specs.declared.Family.{Family}
use Rattle.inet_num.specs.Net.{Cidr, IsBlock, HasAddress, enclosing_of}
use Rattle.inet_num.specs.Free.{InOrder, is_taken}

-- each address of the block is one of the set
abbrev pub AllIn : (ℕ → Type 0) → Cidr → Type 0
AllIn set b = (a : ℕ) → HasAddress b a → set a

-- a block of the family all of whose addresses are in the set
pub record IsWithin (family : Family) (set : ℕ → Type 0) (b : Cidr) : Type 0 where
  pub lawful : IsBlock b
  pub family_is : b.family ≡ family
  pub inside : AllIn set b

-- a block of the set whose enclosing block is not one
pub record IsLargest (family : Family) (set : ℕ → Type 0) (b : Cidr) : Type 0 where
  pub lawful : IsBlock b
  pub family_is : b.family ≡ family
  pub inside : AllIn set b
  pub largest : 0 < b.len → ¬ AllIn set (enclosing_of b)

-- blocks that have just the addresses of a set
pub record HaveJust (family : Family) (set : ℕ → Type 0) (bs : List Cidr) : Type 0 where
  pub each : AllByRecursion (IsWithin family set) bs
  pub covers : (a : ℕ) → set a → IsTrue (is_taken bs a)

-- each largest block needs its own block: no list of blocks that has just the addresses of a set is shorter than one of
-- its largest blocks in address order; the set is that of the numbers which meet a test
abbrev pub LargestAreFewest : Type 0
LargestAreFewest = (family : Family) (is_in : ℕ → Bool) (bs cs : List Cidr) → AllByRecursion (IsLargest family (λ a. IsTrue (is_in a))) bs → InOrder 0 bs
    → HaveJust family (λ a. IsTrue (is_in a)) cs → length bs ≤ length cs
