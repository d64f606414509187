-- The entries below a link, and those that a stack of links still represents.
use Rattle.std.specs.Prelude.{ℕ, zero, suc, ◌-◌, ◌*◌, ◌+◌, ◌≤◌, ◌++◌, ◌≡◌, List, [], ◌∷◌, Option, Some, None}
use Rattle.node_pool.specs.Pooled.{Pooled, node_at, IsLive}
use Rattle.radix_tree.specs.declared.Node.{Node}
use Rattle.radix_tree.specs.declared.Entry.{Entry}
use Rattle.radix_tree.specs.declared.links.Linked.{Linked}
use Rattle.radix_tree.specs.Inside.{entry_if}
use Rattle.radix_tree.specs.Shape.{rank}
use Rattle.radix_tree.specs.Sound.{IsSound}

-- a node's own entry, then those in its low half, then those in its high half, each half as the function says
abbrev pub entries_at : (Option ℕ → List Entry) → Option Node → List Entry
entries_at below None = []
entries_at below (Some n) = entry_if n.count n.block ++ (below n.low ++ below n.high)

-- the entries below a link, as many nodes down as the first number
unfoldable pub preorder : ℕ → Pooled Node → Option ℕ → List Entry
preorder zero pool at = []
preorder (suc d) pool None = []
preorder (suc d) pool (Some id) = entries_at (preorder d pool) (node_at pool id)

-- no more than 129 nodes are one below another
abbrev pub entries_below : Pooled Node → Option ℕ → List Entry
entries_below pool at = preorder 129 pool at

-- those of a stack of links, its last one first
abbrev pub to_come : Pooled Node → List (Option ℕ) → List Entry
to_come pool [] = []
to_come pool (x ∷ xs) = to_come pool xs ++ entries_below pool x

-- each link of the stack has a node, and the deeper it is in the stack the more nodes may be below it
abbrev pub IsStacked : Pooled Node → ℕ → List (Option ℕ) → Type 0
IsStacked pool most [] = Unit {0}
IsStacked pool most (x ∷ xs) = (rank pool x ≤ most) × ((id : ℕ) → x ≡ Some id → IsLive pool id) × IsStacked pool (most - 1) xs

-- a stack of links in a sound tree
pub record IsPending (t : Linked) (xs : List (Option ℕ)) : Type 0 where
  pub sound : IsSound t
  pub stacked : IsStacked t.pool 129 xs

-- a number that falls as a link gives way to the two below it
abbrev pub heft : ℕ → ℕ
heft zero = 1
heft (suc r) = 3 * heft r

abbrev pub weight : Pooled Node → List (Option ℕ) → ℕ
weight pool [] = 0
weight pool (x ∷ xs) = heft (rank pool x) + weight pool xs
