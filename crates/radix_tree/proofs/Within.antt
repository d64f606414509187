-- What the nodes below a link list: the node's own block, then the blocks in its low half, then those in its high half.
use Rattle.std.proofs.Common.{◌≡◌, ◌≢◌, ℕ, zero, suc, ◌<◌, Bool, true, false, refl, sym, ◌∙◌, ap, subst, arith, inl, inr, Some, None, List, [], ◌∷◌, ◌++◌}
use Rattle.std.specs.Prelude.{Contains}
use Rattle.std.proofs.lemmas.Bool.{cases_lt, cases_eq}
use Rattle.std.proofs.lemmas.List.Elements.{Contains-append_left, Contains-append_right, Contains-append_cases}
use Rattle.inet_num.specs.Net.{Cidr, width_of, IsBlock, IsInside}
use Rattle.inet_num.proofs.Nested.{inside_trans, same_by_len}
use Rattle.block_space.specs.Listed.{times_of}
use Rattle.node_pool.specs.Pooled.{node_at}
use Rattle.radix_tree.specs.declared.Node.{Node}
use Rattle.radix_tree.specs.declared.Entry.{Entry}
use Rattle.radix_tree.specs.declared.links.Linked.{Linked}
use Rattle.radix_tree.specs.Shape.{half, HasRoom, IsLink}
use Rattle.radix_tree.specs.Listed.{blocks_of}
use Rattle.radix_tree.specs.Sound.{IsSound}
use Rattle.radix_tree.specs.Inside.{ComesBefore, AreInOrder, ListsInside, entry_if}
use Rattle.radix_tree.proofs.Sides.{has_first, half_in, side_of, longer, len_of_inside}
use Rattle.radix_tree.proofs.Order.{some_same, not_both, one_node}
use Rattle.radix_tree.proofs.Covers.{node_of, node_held, half_len}
use Rattle.radix_tree.proofs.Times.{times_node}
use Rattle.radix_tree.proofs.Covered.{half_short}

joined_order : (xs ys : List Entry) → AreInOrder xs → AreInOrder ys → ((x y : Entry) → Contains xs x → Contains ys y → ComesBefore x.block y.block) → AreInOrder (xs ++ ys)
joined_order [] ys h k before = k
joined_order (x ∷ xs) ys h k before =
    (λ y m. elim (Contains-append_cases xs ys y m) [ inl own ↦ h.0 y own | inr other ↦ before x y (0, omega arith, refl) other ], joined_order xs ys h.1 k (λ a b p q. before a b (suc p.0, omega (arith, p.1), p.2) q))

entry_is : (count : ℕ) (b : Cidr) (x : Entry) → Contains (entry_if count b) x → (b ≡ x.block) × (count ≡ x.times) × (count ≢ 0)
entry_is zero b x h = absurd (let less : h.0 < 0 = h.1 in omega arith)
entry_is (suc n) b x (zero, less, is) = (ap (λ (y : Entry). y.block) is, ap (λ (y : Entry). y.times) is, λ e. omega arith)
entry_is (suc n) b x (suc k, less, is) = absurd (omega arith)

has_entry : (count : ℕ) (b : Cidr) → count ≢ 0 → (x : Entry) × Contains (entry_if count b) x × (x.block ≡ b)
has_entry zero b some = absurd (some refl)
has_entry (suc n) b some = (record { block = b; times = suc n }, (0, omega arith, refl), refl)

one_in_order : (count : ℕ) (b : Cidr) → AreInOrder (entry_if count b)
one_in_order zero b = tt
one_in_order (suc n) b = (λ y m. absurd (let less : m.0 < 0 = m.1 in omega arith), tt)

-- no node with a count lies in the land
inside_none : (t : Linked) (land : Cidr) → ((j : ℕ) (m : Node) → node_at t.pool j ≡ Some m → IsInside m.block land → ⊥) → ListsInside (blocks_of t.pool) land []
inside_none t land none = record {
  each = λ x k. absurd (let less : k.0 < 0 = k.1 in omega arith);
  all = λ b held i. let m = node_of t.pool.slots b held in absurd (none m.0 m.1 m.2 (subst (λ (c : Cidr). IsInside c land) (sym m.3) i));
  ordered = tt;
}

-- the link leads nowhere
pub inside_clear : (t : Linked) (land : Cidr) → IsLink t.pool None land → ListsInside (blocks_of t.pool) land []
inside_clear t land link = inside_none t land (λ j m e i. let lead = link.leads j m e i in not_both None lead.0 refl lead.2)

module _ (t : Linked) (w : IsSound t) (land : Cidr) (id : ℕ) (n : Node) (link : IsLink t.pool (Some id) land) (e : node_at t.pool id ≡ Some n) where
  own : IsBlock n.block
  own = (w.tree.each id n e).lawful

  n_land : IsInside n.block land
  n_land = (let top = link.top id refl in subst (λ (x : Node). IsInside x.block land) (one_node t.pool id id top.0 n refl top.1 e) top.2)

  under_node : (j : ℕ) (m : Node) → node_at t.pool j ≡ Some m → IsInside m.block land → IsInside m.block n.block
  under_node j m f i =
      let lead = link.leads j m f i in
      subst (λ (x : Node). IsInside m.block x.block) (one_node t.pool lead.0 id lead.1 n (sym (some_same id lead.0 lead.2)) lead.3 e) lead.4

  own_each : (x : Entry) → Contains (entry_if n.count n.block) x → Contains (blocks_of t.pool) x.block × IsInside x.block land × (x.times ≡ times_of (blocks_of t.pool) x.block)
  own_each x k =
      let o = entry_is n.count n.block x k in
      let times = times_node t w.tree n.block (w.tree.each id n e).family_is id n e refl in
      subst (λ (c : Cidr). Contains (blocks_of t.pool) c × IsInside c land × (x.times ≡ times_of (blocks_of t.pool) c)) o.0 (node_held t.pool id n e o.2, n_land, sym o.1 ∙ sym times)

  own_has : (j : ℕ) (m : Node) → node_at t.pool j ≡ Some m → m.count ≢ 0 → j ≡ id → (x : Entry) × Contains (entry_if n.count n.block) x × (x.block ≡ m.block)
  own_has j m f some same =
      let is : m ≡ n = one_node t.pool j id m n same f e in
      let r = has_entry n.count n.block (λ z. some (ap (λ (x : Node). x.count) is ∙ z)) in
      (r.0, r.1, r.2 ∙ sym (ap (λ (x : Node). x.block) is))

  -- a single address
  pub inside_single : n.block.len ≡ width_of n.block.family → ListsInside (blocks_of t.pool) land (entry_if n.count n.block)
  inside_single full = record {
    each = own_each;
    all = λ b held i.
        let m = node_of t.pool.slots b held in
        let deep = under_node m.0 m.1 m.2 (subst (λ (c : Cidr). IsInside c land) (sym m.3) i) in
        let short = (w.tree.each m.0 m.1 m.2).lawful.short in
        let fam : width_of m.1.block.family ≡ width_of n.block.family = ap width_of deep.family in
        let same = same_by_len m.1.block n.block deep (omega (arith, short, fam, full)) short own.short in
        let r = own_has m.0 m.1 m.2 m.4 (w.tree.one m.0 id m.1 n m.2 e same) in
        (r.0, r.1, r.2 ∙ m.3);
    ordered = one_in_order n.count n.block;
  }

  module _ (room : HasRoom n.block) (low high : List Entry) (l : ListsInside (blocks_of t.pool) (half false n.block) low) (h : ListsInside (blocks_of t.pool) (half true n.block) high) where
    half_land : (s : Bool) (c : Cidr) → IsInside c (half s n.block) → IsInside c land
    half_land s c i = inside_trans c (half s n.block) land i (inside_trans (half s n.block) n.block land (half_in s n.block room) n_land)

    before_half : (s : Bool) (c : Cidr) → Contains (blocks_of t.pool) c → IsInside c (half s n.block) → ComesBefore n.block c
    before_half s c held i =
        let m = node_of t.pool.slots c held in
        let short = (subst IsBlock m.3 (w.tree.each m.0 m.1 m.2).lawful).short in
        let first = ((half_in s n.block room).each c.first (i.each c.first (has_first c))).0 in
        let le = len_of_inside c (half s n.block) short (half_short s n.block room) i in
        let is = half_len s n.block in
        elim (cases_lt n.block.first c.first) [ inl less ↦ inl less | inr not_less ↦ inr (omega (arith, first, not_less), omega (arith, le, is)) ]

    each_of : (x : Entry) → Contains (entry_if n.count n.block ++ (low ++ high)) x → Contains (blocks_of t.pool) x.block × IsInside x.block land × (x.times ≡ times_of (blocks_of t.pool) x.block)
    each_of x k = elim (Contains-append_cases (entry_if n.count n.block) (low ++ high) x k) [
      | inl mine ↦ own_each x mine
      | inr below ↦ elim (Contains-append_cases low high x below) [
        | inl k ↦ (let r = l.each x k in (r.0, half_land false x.block r.1, r.2))
        | inr k ↦ (let r = h.each x k in (r.0, half_land true x.block r.1, r.2))
      ]
    ]

    side_has : (s : Bool) (b : Cidr) → Contains (blocks_of t.pool) b → IsInside b (half s n.block) → (x : Entry) × Contains (entry_if n.count n.block ++ (low ++ high)) x × (x.block ≡ b)
    side_has false b held i = (let r = l.all b held i in (r.0, Contains-append_right (entry_if n.count n.block) (low ++ high) r.0 (Contains-append_left low high r.0 r.1), r.2))
    side_has true b held i = (let r = h.all b held i in (r.0, Contains-append_right (entry_if n.count n.block) (low ++ high) r.0 (Contains-append_right low high r.0 r.1), r.2))

    low_before : (x y : Entry) → Contains low x → Contains high y → ComesBefore x.block y.block
    low_before x y p q =
        let a = ((l.each x p).1.each x.block.first (has_first x.block)).1 in
        let b = ((h.each y q).1.each y.block.first (has_first y.block)).0 in
        inl (omega (arith, a, b))

    own_before : (x y : Entry) → Contains (entry_if n.count n.block) x → Contains (low ++ high) y → ComesBefore x.block y.block
    own_before x y p q = subst (λ (c : Cidr). ComesBefore c y.block) (entry_is n.count n.block x p).0 (elim (Contains-append_cases low high y q) [
      | inl k ↦ before_half false y.block (l.each y k).0 (l.each y k).1
      | inr k ↦ before_half true y.block (h.each y k).0 (h.each y k).1
    ])

    pub inside_node : ListsInside (blocks_of t.pool) land (entry_if n.count n.block ++ (low ++ high))
    inside_node = record {
      each = each_of;
      all = λ b held i.
          let m = node_of t.pool.slots b held in
          let own_m = (w.tree.each m.0 m.1 m.2).lawful in
          let deep = under_node m.0 m.1 m.2 (subst (λ (c : Cidr). IsInside c land) (sym m.3) i) in
          elim (cases_eq m.0 id) [
            | inl same ↦ (let r = own_has m.0 m.1 m.2 m.4 same in (r.0, Contains-append_left (entry_if n.count n.block) (low ++ high) r.0 r.1, r.2 ∙ m.3))
            | inr other ↦
                let side = side_of n.block m.1.block own own_m deep (longer m.1.block n.block own_m own deep (λ same. other (w.tree.one m.0 id m.1 n m.2 e same))) in
                side_has side.0 b held (subst (λ (c : Cidr). IsInside c (half side.0 n.block)) m.3 side.1)
          ];
      ordered = joined_order (entry_if n.count n.block) (low ++ high) (one_in_order n.count n.block) (joined_order low high l.ordered h.ordered low_before) own_before;
    }
