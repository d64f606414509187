-- What is taken in a land by the blocks of the nodes that lie in it, and in its halves.
use Rattle.std.proofs.Common.{◌≡◌, ◌≢◌, ℕ, zero, suc, ◌+◌, ◌<◌, ◌≤◌, Bool, true, false, not, ◌&&◌, refl, sym, ◌∙◌, ap, subst, arith, inl, inr, Option, Some, None}
use Rattle.std.proofs.lemmas.Bool.{cases_lt}
use Rattle.inet_num.specs.Net.{Cidr, width_of, HasAddress, IsBlock, IsInside}
use Rattle.inet_num.specs.Free.{is_taken, IsFree}
use Rattle.inet_num.proofs.Nested.{inside_trans}
use Rattle.block_space.specs.Listed.{is_same, counting_of}
use Rattle.node_pool.specs.Pooled.{node_at}
use Rattle.radix_tree.specs.declared.Node.{Node}
use Rattle.radix_tree.specs.declared.links.Linked.{Linked}
use Rattle.radix_tree.specs.Shape.{half, child, HasRoom, IsLink, IsTree}
use Rattle.radix_tree.specs.Listed.{blocks_of}
use Rattle.radix_tree.specs.Sound.{IsSound}
use Rattle.radix_tree.proofs.Sides.{self_in, half_family, has_first, half_in, not_in_half, sides_apart, same_side, side_of, longer, len_of_inside}
use Rattle.radix_tree.proofs.Order.{some_same, not_both, one_node}
use Rattle.radix_tree.proofs.Insert.{not_same}
use Rattle.radix_tree.proofs.Times.{same_false}
use Rattle.radix_tree.proofs.Covered.{not_true, half_short}
use Rattle.radix_tree.proofs.Taken.{HasHeld, taken_of, held_from, held_to, tests_agree}
use Rattle.radix_tree.proofs.Mending.{child_node}

-- a node with a count in the block
abbrev pub HasCounted : Linked → Cidr → Type 0
HasCounted t b = (j : ℕ) × (m : Node) × (node_at t.pool j ≡ Some m) × (m.count ≢ 0) × IsInside m.block b

held_step : (t : Linked) → IsSound t → (id : ℕ) (n : Node) → node_at t.pool id ≡ Some n → (HasRoom n.block → (c : ℕ) (k : Node) → node_at t.pool c ≡ Some k → IsInside k.block n.block → n.block.len < k.block.len → HasCounted t k.block) → HasCounted t n.block
held_step t w id n e deeper = elim (cases_lt 0 n.count) [
  | inl some ↦ (id, n, e, (λ z. omega arith), self_in n.block)
  | inr none ↦ below (omega arith) (child false n) refl
] where
  below : n.count ≡ 0 → (x : Option ℕ) → child false n ≡ x → HasCounted t n.block
  below none None is = absurd (w.full id n e (λ k. cc) none false is)
  below none (Some c) is =
      let k = child_node t w.tree id n false c e is in
      let le = len_of_inside k.0.block (half false n.block) (w.tree.each c k.0 k.1).lawful.short (half_short false n.block k.3) k.2 in
      let inside = inside_trans k.0.block (half false n.block) n.block k.2 (half_in false n.block k.3) in
      let r = deeper k.3 c k.0 k.1 inside (omega arith) in
      (r.0, r.1, r.2, r.3, inside_trans r.1.block k.0.block n.block r.4 inside)

-- each node has a node with a count in its block
pub some_held : (t : Linked) → IsSound t → (d : ℕ) (id : ℕ) (n : Node) → node_at t.pool id ≡ Some n → width_of n.block.family ≤ n.block.len + d → HasCounted t n.block
some_held t w zero id n e deep = held_step t w id n e (λ room c k f i less. absurd (omega arith))
some_held t w (suc d) id n e deep = held_step t w id n e (λ room c k f i less. (let fam : width_of k.block.family ≡ width_of n.block.family = ap width_of i.family in some_held t w d c k f (omega arith)))

-- a land with a node in it is not free
pub land_taken : (t : Linked) → IsSound t → (land : Cidr) (strict : Bool) (id : ℕ) (n : Node) → node_at t.pool id ≡ Some n → IsInside n.block land → ((m : Cidr) → IsInside m n.block → not (strict && is_same m land) ≡ true) → IsFree (counting_of (blocks_of t.pool) land strict) land → ⊥
land_taken t w land strict id n e i counted free =
    let r = some_held t w (width_of n.block.family) id n e (omega arith) in
    let inside = inside_trans r.1.block n.block land r.4 i in
    let first = has_first r.1.block in
    let yes_taken = held_to t land strict r.1.block.first (record { id = r.0; node = r.1; here = r.2; some = r.3; inside = inside; counted = counted r.1.block r.4; has = first }) in
    let none = free r.1.block.first (inside.each r.1.block.first first) in
    cc

-- no node lies in the land: all of it is free
pub land_free : (t : Linked) → IsTree t → (land : Cidr) (strict : Bool) → land.family ≡ t.family → IsLink t.pool None land → IsFree (counting_of (blocks_of t.pool) land strict) land
land_free t w land strict fam link = λ a h. not_true (taken_of t land strict a) (λ x.
    let r = held_from t w land fam strict a x in
    let lead = link.leads r.id r.node r.here r.inside in not_both None lead.0 refl lead.2)

-- what is taken of a half is taken by what lies in it, where nothing counts that is the land itself
pub half_taken : (t : Linked) → IsTree t → (land : Cidr) → IsBlock land → land.family ≡ t.family → HasRoom land → (strict : Bool) → ((a : ℕ) (h : HasHeld t land strict a) → h.node.block ≢ land)
    → (s : Bool) (a : ℕ) → HasAddress (half s land) a → is_taken (counting_of (blocks_of t.pool) land strict) a ≡ is_taken (counting_of (blocks_of t.pool) (half s land) false) a
half_taken t w land hl fam room strict strictly s a at =
    tests_agree (taken_of t land strict a) (taken_of t (half s land) false a)
    (λ x.
    let h = held_from t w land fam strict a x in
    let own_m = (w.each h.id h.node h.here).lawful in
    let r = side_of land h.node.block hl own_m h.inside (longer h.node.block land own_m hl h.inside (strictly a h)) in
    elim (same_side r.0 s) [
      | inl same ↦ held_to t (half s land) false a (record { id = h.id; node = h.node; here = h.here; some = h.some; inside = subst (λ (z : Bool). IsInside h.node.block (half z land)) same r.1; counted = refl; has = h.has })
      | inr apart ↦ absurd (sides_apart r.0 s land a apart (r.1.each a h.has) at)
    ])
    (λ x.
    let h = held_from t w (half s land) (half_family s land ∙ fam) false a x in
    held_to t land strict a (record { id = h.id; node = h.node; here = h.here; some = h.some; inside = inside_trans h.node.block (half s land) land h.inside (half_in s land room); counted = counted strict h.node.block h.inside; has = h.has }))
  where
    counted : (r : Bool) (b : Cidr) → IsInside b (half s land) → not (r && is_same b land) ≡ true
    counted false b i = refl
    counted true b i = ap not (same_false b land (i.family ∙ half_family s land) (λ k. not_in_half s land room (subst (λ (c : Cidr). IsInside c (half s land)) k i)))

-- the links for the halves of a land whose node is smaller
pub halves_linked : (t : Linked) → IsTree t → (land : Cidr) → HasRoom land → (id : ℕ) (n : Node) → node_at t.pool id ≡ Some n → IsLink t.pool (Some id) land → (s : Bool) → IsInside n.block (half s land)
    → IsLink t.pool (Some id) (half s land) × IsLink t.pool None (half (not s) land)
halves_linked t w land room id n e link s i = (
  record {
    top = λ j js. (n, subst (λ (x : ℕ). node_at t.pool x ≡ Some n) (some_same id j js) e, i);
    leads = λ j m f deep. link.leads j m f (inside_trans m.block (half s land) land deep (half_in s land room));
  },
  record {
    top = λ j js. absurd (not_both None j refl js);
    leads = λ j m f deep.
        let lead = link.leads j m f (inside_trans m.block (half (not s) land) land deep (half_in (not s) land room)) in
        let in_n : IsInside m.block n.block = subst (λ (x : Node). IsInside m.block x.block) (one_node t.pool lead.0 id lead.1 n (sym (some_same id lead.0 lead.2)) lead.3 e) lead.4 in
        let first = has_first m.block in
        absurd (sides_apart s (not s) land m.block.first (not_same s) (i.each m.block.first (in_n.each m.block.first first)) (deep.each m.block.first first));
  },
)

-- beside a smaller node one half of the land is free
pub half_free : (t : Linked) → IsTree t → (land : Cidr) → IsBlock land → land.family ≡ t.family → HasRoom land → (strict : Bool) → ((a : ℕ) (h : HasHeld t land strict a) → h.node.block ≢ land) → (s : Bool) → IsLink t.pool None (half s land) → IsFree (counting_of (blocks_of t.pool) land strict) (half s land)
half_free t w land hl fam room strict strictly s link = λ a h. half_taken t w land hl fam room strict strictly s a h ∙ land_free t w (half s land) false (half_family s land ∙ fam) link a h

-- where the node is smaller than the land, no node is the land itself
pub none_is_land : (t : Linked) → (land : Cidr) (id : ℕ) (n : Node) → node_at t.pool id ≡ Some n → IsLink t.pool (Some id) land → IsBlock land → IsBlock n.block → land.len < n.block.len → (j : ℕ) (m : Node) → node_at t.pool j ≡ Some m → m.block ≢ land
none_is_land t land id n e link hl hn less j m f same =
    let lead = link.leads j m f (subst (IsInside m.block) same (self_in m.block)) in
    let in_n : IsInside m.block n.block = subst (λ (x : Node). IsInside m.block x.block) (one_node t.pool lead.0 id lead.1 n (sym (some_same id lead.0 lead.2)) lead.3 e) lead.4 in
    let le = len_of_inside land n.block hl.short hn.short (subst (λ (b : Cidr). IsInside b n.block) same in_n) in
    absurd (omega arith)
