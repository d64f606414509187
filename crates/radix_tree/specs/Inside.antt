-- The blocks of a list that lie inside a block, with how often each occurs there, by first address and then length.
use Rattle.std.specs.Prelude.{◌≡◌, ◌⊎◌, ℕ, zero, suc, ◌<◌, List, [], ◌∷◌, Contains}
use Rattle.inet_num.specs.Net.{Cidr, IsInside}
use Rattle.block_space.specs.Listed.{times_of}
use Rattle.radix_tree.specs.declared.Entry.{Entry}

-- the first block has the lower first address, or both have the same one and its length is the lower
abbrev pub ComesBefore : Cidr → Cidr → Type 0
ComesBefore a b = (a.first < b.first) ⊎ ((a.first ≡ b.first) × (a.len < b.len))

-- each block comes before all that follow it, so none occurs twice
abbrev pub AreInOrder : List Entry → Type 0
AreInOrder [] = Unit {0}
AreInOrder (x ∷ xs) = ((y : Entry) → Contains xs y → ComesBefore x.block y.block) × AreInOrder xs

-- the blocks of the list inside the block, each once and with how often the list has it, in order
pub record ListsInside (held : List Cidr) (within : Cidr) (xs : List Entry) : Type 0 where
  pub each : (x : Entry) → Contains xs x → Contains held x.block × IsInside x.block within × (x.times ≡ times_of held x.block)
  pub all : (b : Cidr) → Contains held b → IsInside b within → (x : Entry) × Contains xs x × (x.block ≡ b)
  pub ordered : AreInOrder xs

-- the block with its count, if that is not 0
abbrev pub entry_if : ℕ → Cidr → List Entry
entry_if zero b = []
entry_if (suc count) b = record { block = b; times = suc count } ∷ []
