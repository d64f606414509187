-- What a reader of a tree's nodes may rely on, besides the blocks that they represent.
use Rattle.std.specs.Prelude.{◌≡◌, ◌≢◌, ℕ, Bool, List, [], ◌∷◌, Option, Some, None}
use Rattle.inet_num.specs.Net.{IsInside}
use Rattle.node_pool.specs.Pooled.{Pooled, node_at, IsLive}
use Rattle.radix_tree.specs.declared.Node.{Node}
use Rattle.radix_tree.specs.Shape.{child, half}

-- the id of each child has a node
abbrev pub HasLiveChildren : Pooled Node → Type 0
HasLiveChildren pool = (id below : ℕ) (node : Node) (side : Bool) → node_at pool id ≡ Some node → child side node ≡ Some below → IsLive pool below

-- each node without a count has two children
abbrev pub HasTwoChildren : Pooled Node → Type 0
HasTwoChildren pool = (id : ℕ) (node : Node) → node_at pool id ≡ Some node → node.count ≡ 0 → (side : Bool) → child side node ≢ None

-- each child's block lies in the half of its parent's block on its side
abbrev pub HasHalves : Pooled Node → Type 0
HasHalves pool = (id below : ℕ) (node kid : Node) (side : Bool) → node_at pool id ≡ Some node → child side node ≡ Some below → node_at pool below ≡ Some kid → IsInside kid.block (half side node.block)

-- the way down from this link by these sides leads to the id
abbrev pub LeadsDown : Pooled Node → Option ℕ → List Bool → ℕ → Type 0
LeadsDown pool at [] id = at ≡ Some id
LeadsDown pool at (side ∷ sides) id = (top : ℕ) × (node : Node) × (at ≡ Some top) × (node_at pool top ≡ Some node) × LeadsDown pool (child side node) sides id

-- all nodes hang together under one, if there are any, and each child lies in its half
pub record IsShaped (pool : Pooled Node) : Type 0 where
  pub root : Option ℕ
  pub live : (id : ℕ) → root ≡ Some id → IsLive pool id
  pub halves : HasHalves pool
  pub hangs : (id : ℕ) (node : Node) → node_at pool id ≡ Some node → (sides : List Bool) × LeadsDown pool root sides id
