-- The two changes of a tree's shape: a node is put at a place and takes over all that it had, or the node of a place is
-- cut out and its one child takes the place.
use Rattle.std.specs.Prelude.{◌≡◌, ◌≢◌, ◌⊎◌, ℕ, Bool, Option, Some, None}
use Rattle.inet_num.specs.Net.{Cidr, IsBlock, IsInside}
use Rattle.node_pool.specs.Pooled.{node_at}
use Rattle.radix_tree.specs.declared.Node.{Node}
use Rattle.radix_tree.specs.declared.links.Place.{Place}
use Rattle.radix_tree.specs.declared.links.Linked.{Linked}
use Rattle.radix_tree.specs.Shape.{half, child, HasRoom, IsLink, HasLink, IsSet}

-- a node that may be put at a place for the land: all that lies there lies in it, and its links are right
pub record CanPut (old : Linked) (land : Cidr) (n : Node) : Type 0 where
  pub lawful : IsBlock n.block
  pub family_is : n.block.family ≡ old.family
  pub shut : (¬ HasRoom n.block) → (side : Bool) → child side n ≡ None
  pub inside : IsInside n.block land
  pub clear : (id : ℕ) (m : Node) → node_at old.pool id ≡ Some m → IsInside m.block land → IsInside n.block m.block → ⊥
  pub below : (id : ℕ) (m : Node) → node_at old.pool id ≡ Some m → IsInside m.block land → IsInside m.block n.block
  pub children : (side : Bool) → HasRoom n.block → IsLink old.pool (child side n) (half side n.block)

-- the new node is at the place, and the rest is unchanged
pub record IsPut (old new : Linked) (place : Place) (i : ℕ) (n : Node) : Type 0 where
  pub family : new.family ≡ old.family
  pub put : node_at new.pool i ≡ Some n
  pub fresh : node_at old.pool i ≡ None
  pub kept : (id : ℕ) (m : Node) → node_at old.pool id ≡ Some m → (q : Node) × (node_at new.pool id ≡ Some q) × IsSet place (Some i) id m q
  pub was : (id : ℕ) (q : Node) → node_at new.pool id ≡ Some q → ((id ≡ i) × (q ≡ n)) ⊎ ((m : Node) × (node_at old.pool id ≡ Some m) × IsSet place (Some i) id m q)
  pub links : (q : Place) (at : Option ℕ) (land : Cidr) → HasLink new q at land
      → ((q ≡ place) × (at ≡ Some i) × ((before : Option ℕ) × HasLink old place before land))
      ⊎ (((side : Bool) × HasRoom n.block × (at ≡ child side n) × (land ≡ half side n.block))
      ⊎ ((q ≢ place) × HasLink old q at land))

-- the node at the place is gone, the place has what was on its one side, and the rest is unchanged
pub record IsCut (old new : Linked) (place : Place) (i : ℕ) (n : Node) (side : Bool) : Type 0 where
  pub family : new.family ≡ old.family
  pub here : node_at old.pool i ≡ Some n
  pub gone : node_at new.pool i ≡ None
  pub kept : (id : ℕ) (m : Node) → id ≢ i → node_at old.pool id ≡ Some m → (q : Node) × (node_at new.pool id ≡ Some q) × IsSet place (child side n) id m q
  pub was : (id : ℕ) (q : Node) → node_at new.pool id ≡ Some q → (id ≢ i) × ((m : Node) × (node_at old.pool id ≡ Some m) × IsSet place (child side n) id m q)
  pub links : (q : Place) (at : Option ℕ) (land : Cidr) → HasLink new q at land
      → ((q ≡ place) × (at ≡ child side n) × ((before : Option ℕ) × HasLink old place before land)) ⊎ ((q ≢ place) × HasLink old q at land)
