-- What a call does to one table, and to the tables.
use Rattle.std.specs.Prelude.{◌≡◌, ℕ, ◌+◌, ◌≤◌, ◌∷◌, true, false, List, Some, IsPermutation}
use Rattle.inet_num.specs.declared.Family.{Family}
use Rattle.inet_num.specs.Net.{Cidr}
use Rattle.ipam_data.specs.declared.kinds.Table.{Table}
use Rattle.ipam_data.specs.Tables.{same_table}
use Rattle.inet_num.specs.Blocks.{same_family}
use Rattle.placed_book.specs.Book.{TableBlocks, table_at, is_there, spare_of, blocks_of_family, blocks_at}

-- a table with one more block
pub record IsOneMore (block : Cidr) (old new : TableBlocks) : Type 0 where
  pub table : new.table ≡ old.table
  pub spare : old.spare ≤ new.spare + 1
  pub put : IsPermutation (block ∷ blocks_of_family old block.family) (blocks_of_family new block.family)
  pub others : (family : Family) → same_family block.family family ≡ false → blocks_of_family new family ≡ blocks_of_family old family

-- a table with one block fewer
pub record IsOneLess (block : Cidr) (old new : TableBlocks) : Type 0 where
  pub table : new.table ≡ old.table
  pub spare : old.spare ≤ new.spare
  pub taken : IsPermutation (blocks_of_family old block.family) (block ∷ blocks_of_family new block.family)
  pub others : (family : Family) → same_family block.family family ≡ false → blocks_of_family new family ≡ blocks_of_family old family

-- a table with the same blocks and with room for so many more
pub record IsRoomier (n : ℕ) (old new : TableBlocks) : Type 0 where
  pub table : new.table ≡ old.table
  pub v4 : new.v4 ≡ old.v4
  pub v6 : new.v6 ≡ old.v6
  pub kept : old.spare ≤ new.spare
  pub room : n ≤ new.spare

-- a table whose blocks of one family are these, and whose other blocks are unchanged
pub record IsSwapped (family : Family) (blocks : List Cidr) (old new : TableBlocks) : Type 0 where
  pub table : new.table ≡ old.table
  pub here : blocks_of_family new family ≡ blocks
  pub others : (other : Family) → same_family family other ≡ false → blocks_of_family new other ≡ blocks_of_family old other

-- a space of this family with just these blocks
pub record IsSpaceOf {S : Type 0} (family_of : S → Family) (held_by : S → List Cidr) (own : Family) (blocks : List Cidr) (space : S) : Type 0 where
  pub family : family_of space ≡ own
  pub held : held_by space ≡ blocks

-- one table is as the relation says of it, and every other one is unchanged
pub record IsChangedAt (table : Table) (Changes : TableBlocks → TableBlocks → Type 0) (old new : List TableBlocks) : Type 0 where
  pub here : (t : TableBlocks) → table_at old table ≡ Some t → (u : TableBlocks) × (table_at new table ≡ Some u) × Changes t u
  pub others : (other : Table) → same_table other table ≡ false → table_at new other ≡ table_at old other

-- the table exists with room for so many rows, no table has less room, and the blocks of each are as they were
pub record IsReserved (table : Table) (n : ℕ) (old new : List TableBlocks) : Type 0 where
  pub there : is_there new table ≡ true
  pub room : n ≤ spare_of new table
  pub kept : spare_of old table ≤ spare_of new table
  pub blocks : (family : Family) → blocks_at new table family ≡ blocks_at old table family
  pub others : (other : Table) → same_table other table ≡ false → table_at new other ≡ table_at old other
