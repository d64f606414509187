use Rattle.std.proofs.Common.{◌≡◌, ◌≢◌, ◌⊎◌, ℕ, Bool, refl, sym, ◌∙◌, ap, subst, inl, inr, Option, Some, None}
use Rattle.std.proofs.lemmas.Bool.{cases_eq}
use Rattle.inet_num.specs.Net.{Cidr, HasAddress, IsInside}
use Rattle.inet_num.proofs.Nested.{inside_trans}
use Rattle.inet_num.proofs.Aligned.{nested}
use Rattle.node_pool.specs.Pooled.{Pooled, node_at}
use Rattle.radix_tree.specs.declared.Node.{Node}
use Rattle.radix_tree.specs.declared.links.Place.{Place}
use Rattle.radix_tree.specs.declared.links.Place.TheVariants.{Root, Under}
use Rattle.radix_tree.specs.declared.links.Linked.{Linked}
use Rattle.radix_tree.specs.Shape.{half, child, HasRoom, LeadsTo, IsLink, HasLink, IsTree}
use Rattle.radix_tree.proofs.Sides.{half_in, not_in_half, sides_apart, same_side, in_side, longer, whole_in}

pub some_same : {A : Type 0} (a b : A) → Some a ≡ Some b → a ≡ b
some_same a b e = cc

pub not_both : {A : Type 0} (at : Option A) (a : A) → at ≡ None → at ≡ Some a → ⊥
not_both at a none some = let f : None ≡ Some a = sym none ∙ some in cc

-- one id has one node
pub one_node : (pool : Pooled Node) (i j : ℕ) (m n : Node) → i ≡ j → node_at pool i ≡ Some m → node_at pool j ≡ Some n → m ≡ n
one_node pool i j m n ids e f = some_same m n (sym e ∙ ap (node_at pool) ids ∙ f)

pub leads_weaker : (pool : Pooled Node) (at : Option ℕ) (b c : Cidr) → IsInside c b → LeadsTo pool at b → LeadsTo pool at c
leads_weaker pool at b c i h = (h.0, h.1, h.2, h.3, inside_trans c b h.1.block i h.4)

pub move_link : (pool : Pooled Node) (at to : Option ℕ) (land field : Cidr) → to ≡ at → field ≡ land → IsLink pool at land → IsLink pool to field
move_link pool at to land field e f h = subst (λ (x : Option ℕ). IsLink pool x field) (sym e) (subst (IsLink pool at) (sym f) h)

-- the link leads to a node above the land
abbrev pub IsAbove : Linked → Option ℕ → Cidr → Type 0
IsAbove t at land = (k : ℕ) × (p : Node) × (node_at t.pool k ≡ Some p) × LeadsTo t.pool at p.block × IsInside land p.block × (IsInside p.block land → ⊥)

-- of two nodes around a number, the link on its side in the outer one leads to the inner one
under_in : (t : Linked) → IsTree t → (k m : ℕ) (p q : Node) (s r : Bool) → node_at t.pool k ≡ Some p → node_at t.pool m ≡ Some q → HasRoom p.block → HasRoom q.block → k ≢ m
    → IsInside p.block q.block → (a : ℕ) → HasAddress (half s p.block) a → HasAddress (half r q.block) a → (at : Option ℕ) (land : Cidr) → at ≡ child s p → land ≡ half s p.block
    → (to : Option ℕ) → to ≡ child r q → IsAbove t to land
under_in t w k m p q s r ep eq room_p room_q other inside a in_p in_q at land at_is land_is to to_is =
    let hp = (w.each k p ep).lawful in
    let hq = (w.each m q eq).lawful in
    let less = longer p.block q.block hp hq inside (λ same. other (w.one k m p q ep eq same)) in
    let in_half = in_side q.block p.block r a hq hp inside less ((half_in s p.block room_p).each a in_p) in_q in
    let link = w.links (Under m r) (child r q) (half r q.block) (q, eq, room_q, refl, refl) in
    let led : LeadsTo t.pool to p.block = subst (λ (x : Option ℕ). LeadsTo t.pool x p.block) (sym to_is) (link.leads k p ep in_half) in (
      k,
      p,
      ep,
      led,
      subst (λ (x : Cidr). IsInside x p.block) (sym land_is) (half_in s p.block room_p),
      λ i. not_in_half s p.block room_p (subst (IsInside p.block) land_is i),
    )

-- the root leads to each node that has a place
root_above : (t : Linked) → IsTree t → (at : Option ℕ) (land : Cidr) → HasLink t Root at land → (m : ℕ) (r : Bool) (to : Option ℕ) (field : Cidr) → HasLink t (Under m r) to field → IsAbove t at field
root_above t w at land h m r to field k =
    let link = w.links Root at land h in
    let own = w.each m k.0 k.1 in
    let inside : IsInside k.0.block land = subst (IsInside k.0.block) (sym h.1) (whole_in t.family k.0.block own.lawful own.family_is) in (
      m,
      k.0,
      k.1,
      link.leads m k.0 k.1 inside,
      subst (λ (x : Cidr). IsInside x k.0.block) (sym k.4) (half_in r k.0.block k.2),
      λ i. not_in_half r k.0.block k.2 (subst (IsInside k.0.block) k.4 i),
    )

-- of two places whose lands share a number, one is above the other
pub order : (t : Linked) → IsTree t → (x y : Place) (at to : Option ℕ) (land field : Cidr) → HasLink t x at land → HasLink t y to field → x ≢ y → (a : ℕ) → HasAddress land a → HasAddress field a
    → IsAbove t to land ⊎ IsAbove t at field
order t w Root Root at to land field h k other a in_land in_field = absurd (other refl)
order t w Root (Under m r) at to land field h k other a in_land in_field = inr (root_above t w at land h m r to field k)
order t w (Under k s) Root at to land field h l other a in_land in_field = inl (root_above t w to field l k s at land h)
order t w (Under k s) (Under m r) at to land field h l other a in_land in_field =
    let p = h.0 in
    let q = l.0 in
    let hp = w.each k p h.1 in
    let hq = w.each m q l.1 in
    let in_p : HasAddress (half s p.block) a = subst (λ (x : Cidr). HasAddress x a) h.4 in_land in
    let in_q : HasAddress (half r q.block) a = subst (λ (x : Cidr). HasAddress x a) l.4 in_field in
    elim (cases_eq k m) [
      | inl ids ↦
          let same : p ≡ q = one_node t.pool k m p q ids h.1 l.1 in
          elim (same_side s r) [
            | inl sides ↦ absurd (other (ap (λ (j : ℕ). Under j s) ids ∙ ap (λ (x : Bool). Under m x) sides))
            | inr apart ↦ absurd (sides_apart s r q.block a apart (subst (λ (x : Node). HasAddress (half s x.block) a) same in_p) in_q)
          ]
      | inr another ↦ elim (nested p.block q.block hp.lawful hq.lawful (hp.family_is ∙ sym hq.family_is) a ((half_in s p.block h.2).each a in_p) ((half_in r q.block l.2).each a in_q)) [
        | inl p_in_q ↦ inl (under_in t w k m p q s r h.1 l.1 h.2 l.2 another p_in_q a in_p in_q at land h.3 h.4 to l.3)
        | inr q_in_p ↦ inr (under_in t w m k q p r s l.1 h.1 l.2 h.2 (λ e. another (sym e)) q_in_p a in_q in_p to field l.3 l.4 at h.3)
      ]
    ]

-- a place has one land and one link
pub one_land : (t : Linked) (x : Place) (at to : Option ℕ) (land field : Cidr) → HasLink t x at land → HasLink t x to field → (at ≡ to) × (land ≡ field)
one_land t Root at to land field h k = (h.0 ∙ sym k.0, h.1 ∙ sym k.1)
one_land t (Under m r) at to land field h k =
    let same : h.0 ≡ k.0 = one_node t.pool m m h.0 k.0 refl h.1 k.1 in
    (h.3 ∙ ap (child r) same ∙ sym k.3, h.4 ∙ ap (λ (x : Node). half r x.block) same ∙ sym k.4)
