-- What the nodes that a tree lends have, from the tree's law.
use Rattle.std.proofs.Common.{◌≡◌, ℕ, zero, suc, refl, sym, subst, arith, inl, inr, Option, Some, None, IsSome, List, [], ◌∷◌, ◌++◌, replicate}
use Rattle.std.specs.List.{flat_map, AllByRecursion}
use Rattle.std.proofs.lemmas.Bool.{cases_lt}
use Rattle.inet_num.specs.Net.{width_of, Cidr}
use Rattle.block_space.specs.Listed.{IsBlockOf, AreBlocksOf}
use Rattle.radix_tree.specs.declared.Node.{Node}
use Rattle.radix_tree.specs.declared.links.Place.TheVariants.{Under}
use Rattle.radix_tree.specs.declared.links.Linked.{Linked}
use Rattle.radix_tree.specs.Shape.{half, child, IsTree}
use Rattle.radix_tree.specs.Listed.{copies_at, blocks_of}
use Rattle.radix_tree.specs.Lent.{HasLiveChildren}
use Rattle.radix_tree.proofs.Order.{not_both}
use Rattle.radix_tree.proofs.Slots.{at}

pub live_children : (t : Linked) → IsTree t → HasLiveChildren t.pool
live_children t w id below n side e is = elim (cases_lt n.block.len (width_of n.block.family)) [
  | inl room ↦
      let top = (w.links (Under id side) (child side n) (half side n.block) (n, e, room, refl, refl)).top below is in
      subst IsSome (sym top.1) refl
  | inr full ↦ absurd (not_both (child side n) below ((w.each id n e).shut (λ room. omega arith) side) is)
]

all_more : (P : Cidr → Type 0) (xs ys : List Cidr) → AllByRecursion P xs → AllByRecursion P ys → AllByRecursion P (xs ++ ys)
all_more P [] ys h k = k
all_more P (x ∷ xs) ys h k = (h.0, all_more P xs ys h.1 k)

all_copies : (P : Cidr → Type 0) (n : ℕ) (b : Cidr) → P b → AllByRecursion P (replicate n b)
all_copies P zero b h = tt
all_copies P (suc n) b h = (h, all_copies P n b h)

-- what holds of each node's block holds of the whole list
all_blocks : (P : Cidr → Type 0) (xs : List (Option Node)) → ((j : ℕ) (n : Node) → at xs j ≡ Some n → P n.block) → AllByRecursion P (flat_map copies_at xs)
all_blocks P [] h = tt
all_blocks P (None ∷ xs) h = all_blocks P xs (λ j n e. h (suc j) n e)
all_blocks P (Some n ∷ xs) h = all_more P (replicate n.count n.block) (flat_map copies_at xs) (all_copies P n.count n.block (h 0 n refl)) (all_blocks P xs (λ j m e. h (suc j) m e))

pub blocks_of_family : (t : Linked) → IsTree t → AreBlocksOf t.family (blocks_of t.pool)
blocks_of_family t w = all_blocks (IsBlockOf t.family) t.pool.slots (λ j n e. let own = w.each j n e in record { lawful = own.lawful; family_is = own.family_is })
