-- A tree in which a block was put in or taken out, and then mended.
use Rattle.std.proofs.Common.{◌≡◌, ◌^◌, ◌<◌, ◌≤◌, Bool, true, false, sym, ◌∙◌, subst, arith, List, ◌∷◌, length}
use Rattle.std.specs.Prelude.{IsPermutation, MatchBool}
use Rattle.std.proofs.lemmas.List.Sorted.{length_permutation}
use Rattle.inet_num.specs.Net.{Cidr}
use Rattle.node_pool.specs.Pooled.{Pooled}
use Rattle.radix_tree.specs.declared.Node.{Node}
use Rattle.radix_tree.specs.declared.links.Linked.{Linked}
use Rattle.radix_tree.specs.Shape.{whole, IsTree}
use Rattle.radix_tree.specs.Listed.{blocks_of}
use Rattle.radix_tree.specs.Frees.{HasFrees, HasFreesIn, Refrees}
use Rattle.radix_tree.specs.Sound.{IsKept, IsInserted, IsRemoved}
use Rattle.radix_tree.proofs.Sides.{whole_in}
use Rattle.radix_tree.proofs.Few.{same_sound}
use Rattle.radix_tree.proofs.Mending.{refreed_sound, refreed_blocks, refreed_tree, all_but}

-- each node lies in the whole
pub frees_all : (mid new : Linked) (block : Cidr) → IsTree mid → Refrees mid new → HasFreesIn new.pool block (whole mid.family) → HasFrees new.pool
frees_all mid new block w h in_whole = λ id n e.
    let own = (refreed_tree mid new h w).each id n e in
    in_whole.1 id n e (whole_in mid.family n.block own.lawful (own.family_is ∙ h.family))

pub inserted_mended : (old mid new : Linked) (block : Cidr) → IsInserted old mid block → Refrees mid new → HasFrees new.pool → IsInserted old new block
inserted_mended old mid new block i h frees = record {
  sound = refreed_sound mid new h i.sound;
  family = h.family ∙ i.family;
  blocks = subst (IsPermutation (block ∷ blocks_of old.pool)) (sym (refreed_blocks mid new h)) i.blocks;
  spare = (let a = i.spare in let b = h.spare in omega arith);
  frees = λ all. all_but new.pool block frees;
}

pub removed_mended : (old mid new : Linked) (block : Cidr) (done : Bool) → IsRemoved old mid block done → Refrees mid new → HasFrees new.pool → IsRemoved old new block done
removed_mended old mid new block done r h frees = record {
  sound = refreed_sound mid new h r.sound;
  family = h.family ∙ r.family;
  spare = (let a = r.spare in let b = h.spare in omega arith);
  taken = subst (λ (xs : List Cidr). MatchBool done (IsPermutation (blocks_of old.pool) (block ∷ xs)) (xs ≡ blocks_of old.pool)) (sym (refreed_blocks mid new h)) r.taken;
  cause = r.cause;
  frees = λ all. all_but new.pool block frees;
}

-- the tree that is left
pub kept_inserted : (old new : Linked) (block : Cidr) → length (blocks_of old.pool) < 2 ^ 30 → IsInserted old new block → HasFrees new.pool → IsKept new
kept_inserted old new block few i frees = record { sound = i.sound; frees = frees; few = omega (arith, length_permutation (block ∷ blocks_of old.pool) (blocks_of new.pool) i.blocks, few) }

few_left : (done : Bool) (block : Cidr) (xs ys : List Cidr) → MatchBool done (IsPermutation xs (block ∷ ys)) (ys ≡ xs) → length xs ≤ 2 ^ 30 → length ys ≤ 2 ^ 30
few_left true block xs ys h few = omega (arith, length_permutation xs (block ∷ ys) h, few)
few_left false block xs ys h few = subst (λ (zs : List Cidr). length zs ≤ 2 ^ 30) (sym h) few

pub kept_removed : (old new : Linked) (block : Cidr) (done : Bool) → IsKept old → IsRemoved old new block done → HasFrees new.pool → IsKept new
kept_removed old new block done k r frees = record { sound = r.sound; frees = frees; few = few_left done block (blocks_of old.pool) (blocks_of new.pool) r.taken k.few }

-- the room alone was changed
pub same_kept : (t : Linked) (pool : Pooled Node) → pool.slots ≡ t.pool.slots → IsKept t → IsKept (record { family = t.family; pool = pool; root = t.root })
same_kept t pool same k = record {
  sound = same_sound t pool same k.sound;
  frees = subst (λ (xs : List _). HasFrees (record { slots = xs; spare = pool.spare })) (sym same) k.frees;
  few = subst (λ (xs : List _). length (blocks_of (record { slots = xs; spare = pool.spare })) ≤ 2 ^ 30) (sym same) k.few;
}
