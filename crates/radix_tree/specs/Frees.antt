-- The least length of a free block inside a node's block, how many blocks lie there, and how many addresses they have: how they follow
-- from the node's children, and what the first of them means.
use Rattle.std.specs.Prelude.{◌≡◌, ◌≢◌, ℕ, zero, suc, ◌+◌, ◌%◌, ◌^◌, ◌≤◌, false, min, cond, nat_lt, List, Option, Some, None, MatchOption}
use Rattle.inet_num.specs.Net.{Cidr, size_of, IsBlock, IsInside}
use Rattle.inet_num.specs.Free.{IsFree}
use Rattle.block_space.specs.Listed.{counting_of}
use Rattle.node_pool.specs.Pooled.{Pooled, node_at}
use Rattle.radix_tree.specs.declared.Node.{Node}
use Rattle.radix_tree.specs.declared.links.Linked.{Linked}
use Rattle.radix_tree.specs.Figures.{Figures, figures}
use Rattle.radix_tree.specs.Listed.{blocks_of}

-- the lesser of two lengths, if there are any
abbrev pub lesser : Option ℕ → Option ℕ → Option ℕ
lesser None g = g
lesser (Some a) None = Some a
lesser (Some a) (Some b) = Some (min a b)

-- of a half of this length and the topmost node in it, if there is one: with none the half itself is free; next to a smaller
-- block one half of the half is; and else it is what the node says
abbrev pub free_beside : ℕ → Option Node → Option ℕ
free_beside len None = Some len
free_beside len (Some m) = cond (nat_lt len m.block.len) (Some (len + 1)) m.free

abbrev pub side_free : Pooled Node → ℕ → Option ℕ → Option ℕ
side_free pool len None = Some len
side_free pool len (Some id) = free_beside len (node_at pool id)

-- a node with a count leaves nothing free
abbrev pub if_uncounted : ℕ → Option ℕ → Option ℕ
if_uncounted zero free = free
if_uncounted (suc count) free = None

-- what follows for a node from its count and its children
abbrev pub free_of : Pooled Node → Node → Option ℕ
free_of pool n = if_uncounted n.count (lesser (side_free pool (n.block.len + 1) n.low) (side_free pool (n.block.len + 1) n.high))

-- of a side what its topmost node says of the number of blocks, if there is one
abbrev pub total_said : Option Node → ℕ
total_said None = 0
total_said (Some m) = m.total

abbrev pub side_total : Pooled Node → Option ℕ → ℕ
side_total pool None = 0
side_total pool (Some id) = total_said (node_at pool id)

-- a sum as a u32 that wraps has it
abbrev pub wrapped : ℕ → ℕ → ℕ
wrapped a b = (a + b) % 2 ^ 32

-- what follows for a node: its copies, and the blocks of its two sides
abbrev pub total_of : Pooled Node → Node → ℕ
total_of pool n = wrapped (wrapped n.count (side_total pool n.low)) (side_total pool n.high)

-- of a side what its topmost node says of the addresses of its blocks, if there is one
abbrev pub covered_said : Option Node → ℕ
covered_said None = 0
covered_said (Some m) = m.covered

abbrev pub side_covered : Pooled Node → Option ℕ → ℕ
side_covered pool None = 0
side_covered pool (Some id) = covered_said (node_at pool id)

-- a sum as a u128 that wraps has it
abbrev pub wrapped_wide : ℕ → ℕ → ℕ
wrapped_wide a b = (a + b) % 2 ^ 128

-- how many addresses a block of this length has; none if the length is 0, since no integer counts all of IPv6
abbrev pub own_size : ℕ → Cidr → ℕ
own_size zero b = 0
own_size (suc len) b = size_of b

-- a node with a count has all addresses of its block, another one those of its sides
abbrev pub by_count : ℕ → ℕ → ℕ → ℕ
by_count zero own sides = sides
by_count (suc count) own sides = own

-- what follows for a node
abbrev pub covered_in : Pooled Node → Node → ℕ
covered_in pool n = by_count n.count (own_size n.block.len n.block) (wrapped_wide (side_covered pool n.low) (side_covered pool n.high))

abbrev pub figures_of : Pooled Node → Node → Figures
figures_of pool n = record { free = free_of pool n; total = total_of pool n; covered = covered_in pool n }

-- each node says what follows for it
abbrev pub HasFrees : Pooled Node → Type 0
HasFrees pool = (id : ℕ) (n : Node) → node_at pool id ≡ Some n → figures n ≡ figures_of pool n

-- the same, but for the nodes around a block
abbrev pub HasFreesBut : Pooled Node → Cidr → Type 0
HasFreesBut pool block = (id : ℕ) (n : Node) → node_at pool id ≡ Some n → (¬ IsInside block n.block) → figures n ≡ figures_of pool n

-- and for those nodes around it too that lie in the land
abbrev pub HasFreesIn : Pooled Node → Cidr → Cidr → Type 0
HasFreesIn pool block land = HasFreesBut pool block × ((id : ℕ) (n : Node) → node_at pool id ≡ Some n → IsInside n.block land → figures n ≡ figures_of pool n)

-- the two nodes differ at most in what they say
pub record IsAlike (m n : Node) : Type 0 where
  pub block : n.block ≡ m.block
  pub count : n.count ≡ m.count
  pub low : n.low ≡ m.low
  pub high : n.high ≡ m.high

-- what nodes say was set, and nothing else was changed
pub record Refrees (old new : Linked) : Type 0 where
  pub family : new.family ≡ old.family
  pub root : new.root ≡ old.root
  pub spare : new.pool.spare ≡ old.pool.spare
  pub kept : (id : ℕ) (m : Node) → node_at old.pool id ≡ Some m → (n : Node) × (node_at new.pool id ≡ Some n) × IsAlike m n
  pub was : (id : ℕ) (n : Node) → node_at new.pool id ≡ Some n → (m : Node) × (node_at old.pool id ≡ Some m) × IsAlike m n

-- it was set at one node to this
pub record RefreesOne (old new : Linked) (id : ℕ) (says : Figures) : Type 0 where
  pub family : new.family ≡ old.family
  pub root : new.root ≡ old.root
  pub spare : new.pool.spare ≡ old.pool.spare
  pub node : (n : Node) → node_at old.pool id ≡ Some n → node_at new.pool id ≡ Some (record n { free = says.free; total = says.total; covered = says.covered })
  pub others : (other : ℕ) → other ≢ id → node_at new.pool other ≡ node_at old.pool other

-- the least length of a free block inside the land, or that there is none
abbrev pub IsLeastFree : List Cidr → Cidr → Option ℕ → Type 0
IsLeastFree blocks land free =
    MatchOption free ((b : Cidr) → IsBlock b → IsInside b land → ¬ IsFree blocks b)
    (λ len. ((b : Cidr) × IsBlock b × IsInside b land × IsFree blocks b × (b.len ≡ len)) × ((b : Cidr) → IsBlock b → IsInside b land → IsFree blocks b → len ≤ b.len))

-- each node says the least length of a free block inside its own, given the blocks of the list that lie there
abbrev pub HasLeastFrees : Pooled Node → Type 0
HasLeastFrees pool = (id : ℕ) (n : Node) → node_at pool id ≡ Some n → IsLeastFree (counting_of (blocks_of pool) n.block false) n.block n.free
