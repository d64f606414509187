use Rattle.std.proofs.Common.{◌≡◌, ◌≢◌, ℕ, ◌+◌, ◌*◌, Bool, true, false, refl, sym, ◌∙◌, ap, arith, inl, inr, Option, Some, None, List, [], ◌∷◌}
use Rattle.std.specs.Prelude.{cond}
use Rattle.std.specs.List.{flat_map, sum_by}
use Rattle.std.proofs.lemmas.Bool.{cases_eq}
use Rattle.std.proofs.lemmas.Bool.Decides.{nat_tests}
use Rattle.std.proofs.lemmas.List.Sums.{sum_by-cons, sum_by-append}
use Rattle.std.proofs.lemmas.List.Folds.{sum_by-replicate}
use Rattle.inet_num.specs.Net.{Cidr}
use Rattle.inet_num.proofs.Numbers.{same_block}
use Rattle.node_pool.specs.Pooled.{Pooled, node_at}
use Rattle.radix_tree.specs.declared.Node.{Node}
use Rattle.radix_tree.specs.declared.links.Linked.{Linked}
use Rattle.radix_tree.specs.declared.links.Found.{Found}
use Rattle.radix_tree.specs.Shape.{IsTree}
use Rattle.radix_tree.specs.Find.{IsFound}
use Rattle.radix_tree.specs.Listed.{copies_at, blocks_of}
use Rattle.block_space.specs.Listed.{is_same, times_of}
use Rattle.radix_tree.proofs.Order.{some_same, one_node}
use Rattle.radix_tree.proofs.Slots.{at, cleared, at_cleared, sum_same, sum_without}
use Rattle.radix_tree.proofs.Trim.{found_is}
use Rattle.radix_tree.proofs.Copies.{one_if, same_true}
use Rattle.std.proofs.lemmas.List.{get_or-set_other}

abbrev times_at : Cidr → Option Node → ℕ
times_at block x = sum_by (one_if block) (copies_at x)

-- the copies of the block, node by node
times_sum : (block : Cidr) (xs : List (Option Node)) → times_of (flat_map copies_at xs) block ≡ sum_by (times_at block) xs
times_sum block [] = refl
times_sum block (x ∷ xs) =
    let rest = times_sum block xs in
    let both = sum_by-append (one_if block) (copies_at x) (flat_map copies_at xs) in
    let step = sum_by-cons (times_at block) x xs in
    omega arith

pub same_false : (a b : Cidr) → a.family ≡ b.family → a ≢ b → is_same a b ≡ false
same_false a b fam other = go (is_same a b) refl where
  go : (t : Bool) → is_same a b ≡ t → is_same a b ≡ false
  go false e = e
  go true e =
      let first : a.first ≡ b.first = grind (arith, nat_tests) in
      let len : a.len ≡ b.len = grind (arith, nat_tests) in
      absurd (other (same_block a b fam first len))

times_same : (block : Cidr) (n : Node) → block ≡ n.block → times_at block (Some n) ≡ n.count
times_same block n e =
    let all = sum_by-replicate (one_if block) n.count n.block in
    let one : one_if block n.block ≡ 1 = ap (λ (t : Bool). cond t 1 0) (same_true block n.block e) in
    all ∙ ap (λ (k : ℕ). n.count * k) one ∙ (let unit : n.count * 1 ≡ n.count = omega arith in unit)

times_other : (block : Cidr) (n : Node) → block.family ≡ n.block.family → block ≢ n.block → times_at block (Some n) ≡ 0
times_other block n fam other =
    let all = sum_by-replicate (one_if block) n.count n.block in
    let none : one_if block n.block ≡ 0 = ap (λ (t : Bool). cond t 1 0) (same_false block n.block fam other) in
    all ∙ ap (λ (k : ℕ). n.count * k) none ∙ (let nil : n.count * 0 ≡ 0 = omega arith in nil)

-- no node of the block
pub times_none : (t : Linked) → IsTree t → (block : Cidr) → block.family ≡ t.family → ((j : ℕ) (m : Node) → node_at t.pool j ≡ Some m → m.block ≢ block) → times_of (blocks_of t.pool) block ≡ 0
times_none t w block fam absent = times_sum block t.pool.slots ∙ sum_same (times_at block) refl t.pool.slots [] (λ j. go j (node_at t.pool j) refl) where
  go : (j : ℕ) (x : Option Node) → node_at t.pool j ≡ x → times_at block (node_at t.pool j) ≡ 0
  go j None e = ap (times_at block) e
  go j (Some m) e = ap (times_at block) e ∙ times_other block m (fam ∙ sym (w.each j m e).family_is) (λ same. absent j m e (sym same))

-- the node of the block
pub times_node : (t : Linked) → IsTree t → (block : Cidr) → block.family ≡ t.family → (i : ℕ) (n : Node) → node_at t.pool i ≡ Some n → n.block ≡ block → times_of (blocks_of t.pool) block ≡ n.count
times_node t w block fam i n here same =
    let all = times_sum block t.pool.slots in
    let split = sum_without (times_at block) refl t.pool.slots i in
    let own : times_at block (node_at t.pool i) ≡ n.count = ap (times_at block) here ∙ times_same block n (sym same) in
    let rest : sum_by (times_at block) (cleared t.pool.slots i) ≡ 0 = sum_same (times_at block) refl (cleared t.pool.slots i) [] others in
    all ∙ split ∙ (let sum : times_at block (node_at t.pool i) + sum_by (times_at block) (cleared t.pool.slots i) ≡ n.count = omega (arith, own, rest) in sum) where
      go : (j : ℕ) → j ≢ i → (x : Option Node) → node_at t.pool j ≡ x → times_at block (node_at t.pool j) ≡ 0
      go j other None e = ap (times_at block) e
      go j other (Some m) e = ap (times_at block) e ∙ times_other block m (fam ∙ sym (w.each j m e).family_is) (λ b. other (w.one j i m n e here (sym b ∙ sym same)))

      others : (j : ℕ) → times_at block (at (cleared t.pool.slots i) j) ≡ 0
      others j = elim (cases_eq j i) [
        | inl ids ↦ ap (λ (k : ℕ). times_at block (at (cleared t.pool.slots i) k)) ids ∙ ap (times_at block) (at_cleared t.pool.slots i)
        | inr other ↦ ap (times_at block) (get_or-set_other t.pool.slots i j None None other) ∙ go j other (node_at t.pool j) refl
      ]

-- the block was not found
pub times_absent : (t : Linked) → IsTree t → (block : Cidr) → block.family ≡ t.family → (f : Found) → IsFound t block f → ((i : ℕ) (n : Node) → f.at ≡ Some i → node_at t.pool i ≡ Some n → n.block ≢ block) → times_of (blocks_of t.pool) block ≡ 0
times_absent t w block fam f h other = times_none t w block fam (λ j m e same. other j m (found_is t w block f h j m e same) e same)

pub other_node : (pool : Pooled Node) (at : Option ℕ) (id : ℕ) (n : Node) (block : Cidr) → at ≡ Some id → node_at pool id ≡ Some n → n.block ≢ block → (i : ℕ) (m : Node) → at ≡ Some i → node_at pool i ≡ Some m → m.block ≢ block
other_node pool at id n block is e other i m js f same =
    other (ap (λ (x : Node). x.block) (one_node pool id i n m (some_same id i (sym is ∙ js)) e f) ∙ same)
