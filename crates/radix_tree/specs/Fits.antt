-- What a search for a free block keeps: the links for the halves of a land, and how many nodes it visits.
use Rattle.std.specs.Prelude.{◌≡◌, ◌≢◌, ℕ, ◌+◌, ◌-◌, ◌*◌, ◌≤◌, Bool, true, false, Option, Some, None}
use Rattle.inet_num.specs.Net.{Cidr, width_of, size_of, IsBlock, IsInside}
use Rattle.inet_num.specs.Free.{IsFree}
use Rattle.block_space.specs.Listed.{counting_of}
use Rattle.node_pool.specs.Pooled.{node_at}
use Rattle.radix_tree.specs.declared.Node.{Node}
use Rattle.radix_tree.specs.declared.fits.Sides.{Sides}
use Rattle.radix_tree.specs.declared.links.Linked.{Linked}
use Rattle.radix_tree.specs.Shape.{half, IsLink}
use Rattle.radix_tree.specs.Listed.{blocks_of}

-- a free block of this length exists, if the least length of one is this
abbrev pub Reaches : Option ℕ → ℕ → Type 0
Reaches None len = ⊥
Reaches (Some least) len = least ≤ len

-- the link of one side
abbrev pub side_link : Bool → Sides → Option ℕ
side_link false s = s.low
side_link true s = s.high

-- each link is right for its half of the land
abbrev pub AreSides : Linked → Cidr → Sides → Type 0
AreSides t land s = (side : Bool) → IsLink t.pool (side_link side s) (half side land)

-- and the land has a free block of at most this length, but none of its own: no block of the tree is the land
pub record AreFitting (t : Linked) (land : Cidr) (len : ℕ) (s : Sides) : Type 0 where
  pub links : AreSides t land s
  pub others : (id : ℕ) (m : Node) → node_at t.pool id ≡ Some m → m.count ≢ 0 → m.block ≢ land
  pub fits : (b : Cidr) × IsBlock b × IsInside b land × IsFree (counting_of (blocks_of t.pool) land false) b × (b.len ≤ len)

-- how many lengths there are below the land's
abbrev pub depth : Cidr → ℕ
depth land = width_of land.family - land.len

-- the visits of a search in a land: two for each length, and four if the search begins inside the land and finds a block;
-- one if it begins at the land's first address and finds none; none if the land lies before its begin
pub record IsQuick (land : Cidr) (from : ℕ) (result : Option Cidr) (old new : ℕ) : Type 0 where
  pub past : land.first + size_of land ≤ from → new ≡ old
  pub none_early : result ≡ None → from ≤ land.first → new ≤ old + 1
  pub none : result ≡ None → new ≤ old + (2 * depth land + 1)
  pub early : from ≤ land.first → new ≤ old + (2 * depth land + 1)
  pub all : new ≤ old + (4 * depth land + 1)
