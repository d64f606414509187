-- When a tree is sound, and what insertion and removal make of one.
use Rattle.std.specs.Prelude.{◌≡◌, ◌≢◌, ℕ, ◌+◌, ◌^◌, ◌<◌, ◌≤◌, Bool, MatchBool, length, not, ◌∷◌, Option, Some, None, IsPermutation}
use Rattle.inet_num.specs.Net.{Cidr, IsInside}
use Rattle.block_space.specs.Listed.{times_of}
use Rattle.node_pool.specs.Pooled.{node_at}
use Rattle.radix_tree.specs.declared.Node.{Node}
use Rattle.radix_tree.specs.declared.links.Place.{Place}
use Rattle.radix_tree.specs.declared.links.Place.TheVariants.{Under}
use Rattle.radix_tree.specs.declared.links.Linked.{Linked}
use Rattle.radix_tree.specs.Shape.{child, IsTree}
use Rattle.radix_tree.specs.Listed.{blocks_of, IsTallied, IsFull}
use Rattle.radix_tree.specs.Frees.{HasFrees, HasFreesBut}

-- a tree with a link for each node, in which each node without a count has two children
pub record IsSound (t : Linked) : Type 0 where
  pub tree : IsTree t
  pub tallied : IsTallied t
  pub full : IsFull t None

-- what a tree keeps between calls: each node says what is free in it, and there is a bound on the number of blocks
pub record IsKept (t : Linked) : Type 0 where
  pub sound : IsSound t
  pub frees : HasFrees t.pool
  pub few : length (blocks_of t.pool) ≤ 2 ^ 30

-- a node with the block once, and without children
abbrev pub leaf : Cidr → Node
leaf block = record { block = block; count = 1; low = None; high = None; free = None; total = 0; covered = 0 }

-- the node has this block and count, and one child, on this side
pub record IsOver (n : Node) (block : Cidr) (count : ℕ) (high : Bool) (id : ℕ) : Type 0 where
  pub block_is : n.block ≡ block
  pub count_is : n.count ≡ count
  pub there : child high n ≡ Some id
  pub other : child (not high) n ≡ None

-- the block was put in once
pub record IsInserted (old new : Linked) (block : Cidr) : Type 0 where
  pub sound : IsSound new
  pub family : new.family ≡ old.family
  pub blocks : IsPermutation (block ∷ blocks_of old.pool) (blocks_of new.pool)
  pub spare : old.pool.spare ≤ new.pool.spare + 2
  pub frees : HasFrees old.pool → HasFreesBut new.pool block

-- the node at the place is gone if it had no count and fewer than two children, and else all is unchanged
pub record IsTrimmed (old new : Linked) (place : Place) (id : ℕ) : Type 0 where
  pub tree : IsTree new
  pub tallied : IsTallied new
  pub family : new.family ≡ old.family
  pub blocks : IsPermutation (blocks_of old.pool) (blocks_of new.pool)
  pub spare : old.pool.spare ≤ new.pool.spare
  pub full_but : IsFull old (Some id) → (but : Option ℕ) → ((k : ℕ) (side : Bool) → place ≡ Under k side → but ≡ Some k) → IsFull new but
  pub full : IsFull old (Some id) → (side : Bool) → ((n : Node) → node_at old.pool id ≡ Some n → n.count ≡ 0 → child side n ≢ None) → IsFull new None
  pub kept : (j : ℕ) (m : Node) → j ≢ id → node_at old.pool j ≡ Some m
      → (q : Node) × (node_at new.pool j ≡ Some q) × (q.block ≡ m.block) × (q.count ≡ m.count) × ((side : Bool) → place ≢ Under j side → child side q ≡ child side m)
  pub frees : (block : Cidr) → ((n : Node) → node_at old.pool id ≡ Some n → IsInside block n.block) → HasFreesBut old.pool block → HasFreesBut new.pool block

-- one copy of the block was taken away, or there was none and the list is unchanged
pub record IsRemoved (old new : Linked) (block : Cidr) (done : Bool) : Type 0 where
  pub sound : IsSound new
  pub family : new.family ≡ old.family
  pub spare : old.pool.spare ≤ new.pool.spare
  pub taken : MatchBool done (IsPermutation (blocks_of old.pool) (block ∷ blocks_of new.pool)) (blocks_of new.pool ≡ blocks_of old.pool)
  pub cause : MatchBool done (0 < times_of (blocks_of old.pool) block) (times_of (blocks_of old.pool) block ≡ 0)
  pub frees : HasFrees old.pool → HasFreesBut new.pool block
