-- Which addresses the blocks that count for a block have: those of the nodes with a count that lie in it.
use Rattle.std.proofs.Common.{◌≡◌, ◌≢◌, ℕ, zero, suc, ◌<◌, Bool, true, false, not, ◌&&◌, ◌||◌, refl, sym, ◌∙◌, ap, subst, arith, Some, List, [], ◌∷◌}
use Rattle.std.specs.Prelude.{Contains}
use Rattle.std.specs.List.{list_any}
use Rattle.std.proofs.lemmas.Bool.Decides.{nat_tests}
use Rattle.inet_num.specs.Net.{Cidr, HasAddress, IsInside}
use Rattle.inet_num.specs.Free.{has_address, is_taken, is_inside}
use Rattle.inet_num.proofs.Available.{inside_test, inside_tested}
use Rattle.block_space.specs.Listed.{is_same, counts, counting_of}
use Rattle.block_space.proofs.Alike.{any_filter}
use Rattle.block_space.proofs.FirstFits.{both, both_true}
use Rattle.node_pool.specs.Pooled.{node_at}
use Rattle.radix_tree.specs.declared.Node.{Node}
use Rattle.radix_tree.specs.declared.links.Linked.{Linked}
use Rattle.radix_tree.specs.Shape.{IsTree}
use Rattle.radix_tree.specs.Listed.{blocks_of}
use Rattle.radix_tree.proofs.Covers.{node_of, node_held}

any_elim : (p : Cidr → Bool) (xs : List Cidr) → list_any p xs ≡ true → (b : Cidr) × Contains xs b × (p b ≡ true)
any_elim p [] e = (let f : ⊥ = cc in absurd f)
any_elim p (x ∷ xs) e = go (p x) refl e (any_elim p xs) where
  go : (t : Bool) → p x ≡ t → (t || list_any p xs) ≡ true → (list_any p xs ≡ true → (b : Cidr) × Contains xs b × (p b ≡ true)) → (b : Cidr) × Contains (x ∷ xs) b × (p b ≡ true)
  go true h f later = (x, (0, omega arith, refl), h)
  go false h f later = (let r = later f in (r.0, (suc r.1.0, omega (arith, r.1.1), r.1.2), r.2))

pub or_true : (t : Bool) → (t || true) ≡ true
or_true true = refl
or_true false = refl

any_intro : (p : Cidr → Bool) (xs : List Cidr) (b : Cidr) → Contains xs b → p b ≡ true → list_any p xs ≡ true
any_intro p [] b h e = absurd (let less : h.0 < 0 = h.1 in omega arith)
any_intro p (x ∷ xs) b (zero, less, is) e = ap (λ (t : Bool). t || list_any p xs) (ap p is ∙ e)
any_intro p (x ∷ xs) b (suc k, less, is) e = ap (λ (t : Bool). p x || t) (any_intro p xs b (k, omega arith, is) e) ∙ or_true (p x)

-- tests that hold together are one
pub tests_agree : (s t : Bool) → (s ≡ true → t ≡ true) → (t ≡ true → s ≡ true) → s ≡ t
tests_agree true t f g = sym (f refl)
tests_agree false true f g = g refl
tests_agree false false f g = refl

pub address_test : (b : Cidr) (a : ℕ) → has_address b a ≡ true → HasAddress b a
address_test b a e = (grind (arith, nat_tests), grind (arith, nat_tests))

pub address_tested : (b : Cidr) (a : ℕ) → HasAddress b a → has_address b a ≡ true
address_tested b a h = (let low = h.0 in let high = h.1 in grind (arith, nat_tests))

-- the address is one of a node with a count that lies in the block and passes the test
pub record HasHeld (t : Linked) (within : Cidr) (strict : Bool) (a : ℕ) : Type 0 where
  pub id : ℕ
  pub node : Node
  pub here : node_at t.pool id ≡ Some node
  pub some : node.count ≢ 0
  pub inside : IsInside node.block within
  pub counted : not (strict && is_same node.block within) ≡ true
  pub has : HasAddress node.block a

abbrev pub taken_of : Linked → Cidr → Bool → ℕ → Bool
taken_of t within strict a = is_taken (counting_of (blocks_of t.pool) within strict) a

pub held_from : (t : Linked) → IsTree t → (within : Cidr) → within.family ≡ t.family → (strict : Bool) (a : ℕ) → taken_of t within strict a ≡ true → HasHeld t within strict a
held_from t w within fam strict a e =
    let r = any_elim (λ b. counts within strict b && has_address b a) (blocks_of t.pool) (sym (any_filter (λ b. has_address b a) (counts within strict) (blocks_of t.pool)) ∙ e) in
    let pair = both (counts within strict r.0) (has_address r.0 a) r.2 in
    let parts = both (is_inside r.0 within) (not (strict && is_same r.0 within)) pair.0 in
    let n = node_of t.pool.slots r.0 r.1 in
    record {
      id = n.0;
      node = n.1;
      here = n.2;
      some = n.4;
      inside = inside_test n.1.block within ((w.each n.0 n.1 n.2).family_is ∙ sym fam) (ap (λ (c : Cidr). is_inside c within) n.3 ∙ parts.0);
      counted = ap (λ (c : Cidr). not (strict && is_same c within)) n.3 ∙ parts.1;
      has = subst (λ (c : Cidr). HasAddress c a) (sym n.3) (address_test r.0 a pair.1);
    }

pub held_to : (t : Linked) (within : Cidr) (strict : Bool) (a : ℕ) → HasHeld t within strict a → taken_of t within strict a ≡ true
held_to t within strict a h =
    any_filter (λ b. has_address b a) (counts within strict) (blocks_of t.pool)
    ∙ any_intro (λ b. counts within strict b && has_address b a) (blocks_of t.pool) h.node.block (node_held t.pool h.id h.node h.here h.some)
    (both_true (counts within strict h.node.block) (has_address h.node.block a)
    (both_true (is_inside h.node.block within) (not (strict && is_same h.node.block within)) (inside_tested h.node.block within h.inside) h.counted) (address_tested h.node.block a h.has))
