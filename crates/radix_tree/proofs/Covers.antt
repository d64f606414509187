use Rattle.std.proofs.Common.{◌≡◌, ◌≢◌, ◌⊎◌, ℕ, zero, suc, ◌+◌, ◌<◌, ◌≤◌, Bool, true, false, refl, sym, ◌∙◌, ap, subst, arith, inl, inr, Option, Some, None, List, [], ◌∷◌, ◌++◌, replicate, append-nil}
use Rattle.std.specs.Prelude.{Contains}
use Rattle.std.specs.List.{flat_map}
use Rattle.std.proofs.lemmas.Bool.{cases_eq}
use Rattle.std.proofs.lemmas.List.Elements.{Contains-append_left, Contains-append_right, Contains-append_cases}
use Rattle.std.proofs.lemmas.List.Sorted.{IsPermutation-sym, Contains-permutation}
use Rattle.inet_num.specs.Net.{Cidr, IsBlock, IsInside}
use Rattle.inet_num.proofs.Nested.{inside_trans}
use Rattle.node_pool.specs.Pooled.{Pooled, node_at}
use Rattle.radix_tree.specs.declared.Node.{Node}
use Rattle.radix_tree.specs.declared.links.Place.{Place}
use Rattle.radix_tree.specs.declared.links.Linked.{Linked}
use Rattle.radix_tree.specs.Shape.{half, whole, HasRoom, HasLink, IsTree}
use Rattle.radix_tree.specs.Listed.{copies_at, blocks_of}
use Rattle.radix_tree.specs.Covering.{ByLength, ListsCovering, if_counted}
use Rattle.radix_tree.proofs.Sides.{has_first, longer, in_side, len_of_inside, whole_in}
use Rattle.radix_tree.proofs.Order.{some_same, not_both, one_node}
use Rattle.radix_tree.proofs.Slots.{at, cleared, flat_without}

only : (n : ℕ) (a b : Cidr) → Contains (replicate n a) b → (a ≡ b) × (n ≢ 0)
only zero a b h = absurd (let less : h.0 < 0 = h.1 in omega arith)
only (suc n) a b (zero, less, is) = (is, λ e. omega arith)
only (suc n) a b (suc k, less, is) = ((only n a b (k, omega arith, is)).0, λ e. omega arith)

-- a block of the list is that of a node with a count
pub node_of : (xs : List (Option Node)) (b : Cidr) → Contains (flat_map copies_at xs) b → (j : ℕ) × (n : Node) × (at xs j ≡ Some n) × (n.block ≡ b) × (n.count ≢ 0)
node_of [] b h = absurd (let less : h.0 < 0 = h.1 in omega arith)
node_of (None ∷ xs) b h = let r = node_of xs b h in (suc r.0, r.1, r.2, r.3, r.4)
node_of (Some n ∷ xs) b h = elim (Contains-append_cases (replicate n.count n.block) (flat_map copies_at xs) b h) [
  | inl own ↦ (let o = only n.count n.block b own in (0, n, refl, o.0, o.1))
  | inr more ↦ (let r = node_of xs b more in (suc r.0, r.1, r.2, r.3, r.4))
]

has_one : (n : ℕ) (b : Cidr) → n ≢ 0 → Contains (replicate n b) b
has_one zero b some = absurd (some refl)
has_one (suc n) b some = (0, omega arith, refl)

pub node_held : (pool : Pooled Node) (j : ℕ) (n : Node) → node_at pool j ≡ Some n → n.count ≢ 0 → Contains (blocks_of pool) n.block
node_held pool j n e some =
    let all = flat_without copies_at refl pool.slots j in
    let own : Contains (copies_at (node_at pool j)) n.block = subst (λ (x : Option Node). Contains (copies_at x) n.block) (sym e) (has_one n.count n.block some) in
    Contains-permutation (copies_at (node_at pool j) ++ flat_map copies_at (cleared pool.slots j)) (blocks_of pool) n.block
    (IsPermutation-sym (blocks_of pool) (copies_at (node_at pool j) ++ flat_map copies_at (cleared pool.slots j)) all)
    (Contains-append_left (copies_at (node_at pool j)) (flat_map copies_at (cleared pool.slots j)) n.block own)

-- the nodes around the block are listed or lie in the land
pub record IsCoveringUpTo (t : Linked) (block land : Cidr) (xs : List Cidr) : Type 0 where
  pub each : (b : Cidr) → Contains xs b → Contains (blocks_of t.pool) b × IsInside block b
  pub all : (j : ℕ) (m : Node) → node_at t.pool j ≡ Some m → m.count ≢ 0 → IsInside block m.block → Contains xs m.block ⊎ IsInside m.block land
  pub short : (b : Cidr) → Contains xs b → b.len < land.len
  pub ordered : ByLength 0 xs

len_snoc : (from : ℕ) (xs : List Cidr) (b : Cidr) → ByLength from xs → ((c : Cidr) → Contains xs c → c.len < b.len) → from ≤ b.len → ByLength from (xs ++ b ∷ [])
len_snoc from [] b h short le = (le, tt)
len_snoc from (x ∷ xs) b h short le = (h.0, len_snoc (x.len + 1) xs b h.1 (λ c k. short c (suc k.0, omega (arith, k.1), k.2)) (let less = short x (0, omega arith, refl) in omega arith))

len_once : (count : ℕ) (xs : List Cidr) (b : Cidr) → ByLength 0 xs → ((c : Cidr) → Contains xs c → c.len < b.len) → ByLength 0 (xs ++ if_counted count b)
len_once zero xs b h short = subst (ByLength 0) (sym (append-nil xs)) h
len_once (suc n) xs b h short = len_snoc 0 xs b h short (omega arith)

in_once : (count : ℕ) (b c : Cidr) → Contains (if_counted count b) c → (b ≡ c) × (count ≢ 0)
in_once zero b c h = absurd (let less : h.0 < 0 = h.1 in omega arith)
in_once (suc n) b c (zero, less, is) = (is, λ e. omega arith)
in_once (suc n) b c (suc k, less, is) = absurd (omega arith)

has_once : (count : ℕ) (b : Cidr) → count ≢ 0 → Contains (if_counted count b) b
has_once zero b some = absurd (some refl)
has_once (suc n) b some = (0, omega arith, refl)

module _ (t : Linked) (w : IsTree t) (block : Cidr) (hb : IsBlock block) (place : Place) (land : Cidr) (hl : IsBlock land) (id : ℕ) (n : Node) (here : HasLink t place (Some id) land) (e : node_at t.pool id ≡ Some n)
    (inside : IsInside block n.block) (xs : List Cidr) (h : IsCoveringUpTo t block land xs) where
  own : IsBlock n.block
  own = (w.each id n e).lawful

  in_land : IsInside n.block land
  in_land = (let top = (w.links place (Some id) land here).top id refl in subst (λ (x : Node). IsInside x.block land) (one_node t.pool id id top.0 n refl top.1 e) top.2)

  all_short : (b : Cidr) → Contains xs b → b.len < n.block.len
  all_short b k = let less = h.short b k in let le = len_of_inside n.block land own.short hl.short in_land in omega arith

  -- what lies in the land is the node or lies in it
  pushed : (j : ℕ) (m : Node) → node_at t.pool j ≡ Some m → m.count ≢ 0 → IsInside block m.block → Contains (xs ++ if_counted n.count n.block) m.block ⊎ (IsInside m.block n.block × (n.block.len < m.block.len))
  pushed j m f some around = elim (h.all j m f some around) [
    | inl there ↦ inl (Contains-append_left xs (if_counted n.count n.block) m.block there)
    | inr deep ↦
        let lead = (w.links place (Some id) land here).leads j m f deep in
        let in_n : IsInside m.block n.block = subst (λ (x : Node). IsInside m.block x.block) (one_node t.pool lead.0 id lead.1 n (sym (some_same id lead.0 lead.2)) lead.3 e) lead.4 in
        elim (cases_eq j id) [
          | inl same ↦
              let is : n ≡ m = one_node t.pool id j n m (sym same) e f in
              inl (subst (λ (x : Node). Contains (xs ++ if_counted n.count n.block) x.block) is (Contains-append_right xs (if_counted n.count n.block) n.block (has_once n.count n.block (λ z. some (ap (λ (x : Node). x.count) (sym is) ∙ z)))))
          | inr other ↦ inr (in_n, longer m.block n.block (w.each j m f).lawful own in_n (λ same. other (w.one j id m n f e same)))
        ]
  ]

  each_pushed : (b : Cidr) → Contains (xs ++ if_counted n.count n.block) b → Contains (blocks_of t.pool) b × IsInside block b
  each_pushed b k = elim (Contains-append_cases xs (if_counted n.count n.block) b k) [
    | inl old ↦ h.each b old
    | inr new ↦ (let o = in_once n.count n.block b new in subst (λ (c : Cidr). Contains (blocks_of t.pool) c × IsInside block c) o.0 (node_held t.pool id n e o.1, inside))
  ]

  pub covering_next : (s : Bool) → HasRoom n.block → IsInside block (half s n.block) → (half s n.block).len ≡ n.block.len + 1 → IsCoveringUpTo t block (half s n.block) (xs ++ if_counted n.count n.block)
  covering_next s room side longer_half = record {
    each = each_pushed;
    all = λ j m f some around. elim (pushed j m f some around) [
      | inl there ↦ inl there
      | inr deep ↦
          let first = has_first block in
          inr (in_side n.block m.block s block.first own (w.each j m f).lawful deep.0 deep.1 (around.each block.first first) (side.each block.first first))
    ];
    short = λ b k. elim (Contains-append_cases xs (if_counted n.count n.block) b k) [
      | inl old ↦ (let less = all_short b old in omega arith)
      | inr new ↦ (let same = ap (λ (c : Cidr). c.len) (in_once n.count n.block b new).0 in omega arith)
    ];
    ordered = len_once n.count xs n.block h.ordered all_short;
  }

  -- the node of the block is the last
  pub covering_last : n.block ≡ block → ListsCovering (blocks_of t.pool) block (xs ++ if_counted n.count n.block)
  covering_last same = record {
    each = each_pushed;
    all = λ b held around.
        let m = node_of t.pool.slots b held in
        elim (pushed m.0 m.1 m.2 m.4 (subst (IsInside block) (sym m.3) around)) [
          | inl there ↦ subst (Contains (xs ++ if_counted n.count n.block)) m.3 there
          | inr deep ↦
              let own_m = (w.each m.0 m.1 m.2).lawful in
              let le = len_of_inside block m.1.block hb.short own_m.short (subst (IsInside block) (sym m.3) around) in
              let len = ap (λ (c : Cidr). c.len) same in
              absurd (let f : ⊥ = omega (arith, deep.1) in f)
        ];
    ordered = len_once n.count xs n.block h.ordered all_short;
  }

-- nothing in the land is around the block
pub covering_done : (t : Linked) → IsTree t → (block land : Cidr) (xs : List Cidr) → IsCoveringUpTo t block land xs → ((j : ℕ) (m : Node) → node_at t.pool j ≡ Some m → IsInside m.block land → IsInside block m.block → ⊥)
    → ListsCovering (blocks_of t.pool) block xs
covering_done t w block land xs h clear = record {
  each = h.each;
  all = λ b held around.
      let m = node_of t.pool.slots b held in
      let around_m = subst (IsInside block) (sym m.3) around in
      elim (h.all m.0 m.1 m.2 m.4 around_m) [
        | inl there ↦ subst (Contains xs) m.3 there
        | inr deep ↦ absurd (clear m.0 m.1 m.2 deep around_m)
      ];
  ordered = h.ordered;
}

pub half_len : (s : Bool) (b : Cidr) → (half s b).len ≡ b.len + 1
half_len false b = refl
half_len true b = refl

pub covering_init : (t : Linked) → IsTree t → (block land : Cidr) (xs : List Cidr) → land ≡ whole t.family → xs ≡ [] → IsCoveringUpTo t block land xs
covering_init t w block land xs is none = subst (IsCoveringUpTo t block land) (sym none) (record {
  each = λ b k. absurd (let less : k.0 < 0 = k.1 in omega arith);
  all = λ j m e some around. inr (subst (IsInside m.block) (sym is) (whole_in t.family m.block (w.each j m e).lawful (w.each j m e).family_is));
  short = λ b k. absurd (let less : k.0 < 0 = k.1 in omega arith);
  ordered = tt;
})

-- the node of the land is not around the block
pub covering_out : (t : Linked) → IsTree t → (block : Cidr) (place : Place) (land : Cidr) (id : ℕ) (n : Node) → HasLink t place (Some id) land → node_at t.pool id ≡ Some n → (IsInside block n.block → ⊥)
    → (xs : List Cidr) → IsCoveringUpTo t block land xs → ListsCovering (blocks_of t.pool) block xs
covering_out t w block place land id n here e out xs h = covering_done t w block land xs h (λ j m f deep around.
    let lead = (w.links place (Some id) land here).leads j m f deep in
    let in_n : IsInside m.block n.block = subst (λ (x : Node). IsInside m.block x.block) (one_node t.pool lead.0 id lead.1 n (sym (some_same id lead.0 lead.2)) lead.3 e) lead.4 in
    out (inside_trans block m.block n.block around in_n))

-- no node is left
pub covering_end : (t : Linked) → IsTree t → (block : Cidr) (place : Place) (land : Cidr) (at : Option ℕ) → HasLink t place at land → at ≡ None → (xs : List Cidr) → IsCoveringUpTo t block land xs → ListsCovering (blocks_of t.pool) block xs
covering_end t w block place land at here none xs h = covering_done t w block land xs h (λ j m f deep around. let lead = (w.links place at land here).leads j m f deep in not_both at lead.0 none lead.2)
