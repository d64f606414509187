-- The shape of a path-compressed binary tree of blocks: where links are, which block each is for, and when they are
-- right. Each link has a land: the block that it is for, the whole family for the link to the topmost node, and a half of
-- its node's block elsewhere.
use Rattle.std.specs.Prelude.{◌≡◌, ◌≢◌, ◌⊎◌, ℕ, ◌+◌, ◌-◌, ◌<◌, Bool, true, false, Option, Some, None}
use Rattle.inet_num.specs.declared.Family.{Family}
use Rattle.inet_num.specs.Net.{Cidr, width_of, IsBlock, IsInside, low_half_of, high_half_of}
use Rattle.node_pool.specs.Pooled.{Pooled, node_at}
use Rattle.radix_tree.specs.declared.Node.{Node}
use Rattle.radix_tree.specs.Figures.{figures}
use Rattle.radix_tree.specs.declared.links.Place.{Place}
use Rattle.radix_tree.specs.declared.links.Place.TheVariants.{Root, Under}
use Rattle.radix_tree.specs.declared.links.Linked.{Linked}

-- one half of a block: the low one for false, the high one for true
abbrev pub half : Bool → Cidr → Cidr
half false b = low_half_of b
half true b = high_half_of b

-- a node's link for one half of its block
abbrev pub child : Bool → Node → Option ℕ
child false n = n.low
child true n = n.high

-- the block is no single address, so it has halves
abbrev pub HasRoom : Cidr → Type 0
HasRoom b = b.len < width_of b.family

-- the block of all addresses of a family
abbrev pub whole : Family → Cidr
whole family = record { family = family; first = 0; len = 0 }

-- the link is to a node around the block
abbrev pub LeadsTo : Pooled Node → Option ℕ → Cidr → Type 0
LeadsTo pool at block = (id : ℕ) × (node : Node) × (at ≡ Some id) × (node_at pool id ≡ Some node) × IsInside block node.block

-- the link is right for the land: its node lies there, around each node that lies there
pub record IsLink (pool : Pooled Node) (at : Option ℕ) (land : Cidr) : Type 0 where
  pub top : (id : ℕ) → at ≡ Some id → (node : Node) × (node_at pool id ≡ Some node) × IsInside node.block land
  pub leads : (id : ℕ) (node : Node) → node_at pool id ≡ Some node → IsInside node.block land → LeadsTo pool at node.block

-- this link is at the place, and is for this land
abbrev pub HasLink : Linked → Place → Option ℕ → Cidr → Type 0
HasLink t Root at land = (at ≡ t.root) × (land ≡ whole t.family)
HasLink t (Under id side) at land = (node : Node) × (node_at t.pool id ≡ Some node) × HasRoom node.block × (at ≡ child side node) × (land ≡ half side node.block)

-- what holds of each node on its own: its block is one of the family, and without halves it has no children
pub record IsNode (family : Family) (node : Node) : Type 0 where
  pub lawful : IsBlock node.block
  pub family_is : node.block.family ≡ family
  pub shut : (¬ HasRoom node.block) → (side : Bool) → child side node ≡ None

-- no two nodes have one block
abbrev pub HasOneEach : Pooled Node → Type 0
HasOneEach pool = (i j : ℕ) (m n : Node) → node_at pool i ≡ Some m → node_at pool j ≡ Some n → m.block ≡ n.block → i ≡ j

-- each node is in order, no block has two nodes, and each link is right for its land
pub record IsTree (t : Linked) : Type 0 where
  pub each : (id : ℕ) (node : Node) → node_at t.pool id ≡ Some node → IsNode t.family node
  pub one : HasOneEach t.pool
  pub links : (place : Place) (at : Option ℕ) (land : Cidr) → HasLink t place at land → IsLink t.pool at land

-- how many nodes can be one below another from a node on
abbrev pub rank_of : Option Node → ℕ
rank_of None = 0
rank_of (Some node) = width_of node.block.family + 1 - node.block.len

-- and from a link on
abbrev pub rank : Pooled Node → Option ℕ → ℕ
rank pool None = 0
rank pool (Some id) = rank_of (node_at pool id)

-- the node is unchanged, but for its link at the place, if the place is its own
pub record IsSet (place : Place) (to : Option ℕ) (id : ℕ) (m n : Node) : Type 0 where
  pub block : n.block ≡ m.block
  pub count : n.count ≡ m.count
  pub figures_are : figures n ≡ figures m
  pub links : (side : Bool) → (child side n ≡ child side m) ⊎ (HasRoom m.block × (place ≡ Under id side) × (child side n ≡ to))
  pub put : (side : Bool) → place ≡ Under id side → child side n ≡ to

-- the link at the place was set, and nothing else was changed
pub record Relinks (old new : Linked) (place : Place) (to : Option ℕ) : Type 0 where
  pub family : new.family ≡ old.family
  pub kept : (id : ℕ) (m : Node) → node_at old.pool id ≡ Some m → (n : Node) × (node_at new.pool id ≡ Some n) × IsSet place to id m n
  pub was : (id : ℕ) (n : Node) → node_at new.pool id ≡ Some n → (m : Node) × (node_at old.pool id ≡ Some m) × IsSet place to id m n
  pub links : (q : Place) (at : Option ℕ) (land : Cidr) → HasLink new q at land
      → ((q ≡ place) × (at ≡ to) × ((before : Option ℕ) × HasLink old place before land)) ⊎ ((q ≢ place) × HasLink old q at land)

-- the tree has the place
abbrev pub IsPlace : Linked → Place → Type 0
IsPlace t place = (at : Option ℕ) × (land : Cidr) × HasLink t place at land

-- the node that has the link of a place, if it is not the topmost link
abbrev pub owner : Place → Option ℕ
owner Root = None
owner (Under id side) = Some id
