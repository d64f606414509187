-- What a node says of the blocks inside its own: three figures, each of which follows from the node's count and its children.
use Rattle.std.specs.Prelude.{ℕ, Option}
use Rattle.radix_tree.specs.declared.Node.{Node}

-- the least length of a free block, if there is any, how many blocks there are, as a u32 that wraps has it, and how many addresses they
-- have, as a u128 that wraps has it
pub record Figures : Type 0 where
  pub free : Option ℕ
  pub total : ℕ
  pub covered : ℕ

-- what the node says
abbrev pub figures : Node → Figures
figures n = record { free = n.free; total = n.total; covered = n.covered }
