-- How many addresses the blocks of the nodes below a link have: a node with a count gives its size, another one the sum of its halves.
use Rattle.std.proofs.Common.{◌≡◌, ◌≢◌, ℕ, zero, suc, ◌+◌, ◌^◌, ◌<◌, ◌≤◌, Bool, true, false, not, ◌&&◌, ◌||◌, refl, sym, ◌∙◌, ap, subst, arith, inl, inr, Option, Some, None, List, [], ◌∷◌, length}
use Rattle.std.specs.List.{count_by}
use Rattle.std.proofs.lemmas.Bool.{cases_lt}
use Rattle.std.proofs.lemmas.List.Sums.{count_by-le-length}
use Rattle.inet_num.specs.Net.{Cidr, width_of, size_of, IsBlock, IsInside}
use Rattle.inet_num.specs.Count.{numbers_from, addresses_of}
use Rattle.inet_num.specs.Free.{has_address, is_taken}
use Rattle.inet_num.proofs.Numbers.{ends_of_inside, pow_double, size_fits}
use Rattle.inet_num.proofs.Nested.{inside_trans, same_by_len}
use Rattle.inet_num.proofs.Aligned.{nested}
use Rattle.inet_num.proofs.Counts.{count_either, count_of_inside}
use Rattle.block_space.specs.Listed.{is_same, counting_of, covered_of}
use Rattle.block_space.proofs.Alike.{count_agree}
use Rattle.block_space.proofs.FirstFits.{both}
use Rattle.node_pool.specs.Pooled.{node_at}
use Rattle.radix_tree.specs.declared.Node.{Node}
use Rattle.radix_tree.specs.declared.links.Place.{Place}
use Rattle.radix_tree.specs.declared.links.Place.TheVariants.{Root, Under}
use Rattle.radix_tree.specs.declared.links.Linked.{Linked}
use Rattle.radix_tree.specs.Shape.{half, child, HasRoom, HasLink, IsTree}
use Rattle.radix_tree.specs.Listed.{blocks_of}
use Rattle.radix_tree.specs.Sound.{IsSound}
use Rattle.radix_tree.proofs.Sides.{self_in, half_family, half_in, not_in_half, sides_apart, side_of, longer, len_of_inside}
use Rattle.radix_tree.proofs.Order.{some_same, not_both, one_node}
use Rattle.radix_tree.proofs.Covers.{half_len}
use Rattle.radix_tree.proofs.Copies.{same_true}
use Rattle.radix_tree.proofs.Times.{same_false}
use Rattle.radix_tree.proofs.Taken.{HasHeld, taken_of, held_from, held_to, tests_agree, address_test, address_tested, or_true}

pub not_true : (s : Bool) → (s ≡ true → ⊥) → s ≡ false
not_true true f = absurd (f refl)
not_true false f = refl

either : (f : Bool → Bool) (s : Bool) → f s ≡ true → (f false || f true) ≡ true
either f false h = ap (λ (x : Bool). x || f true) h
either f true h = ap (λ (x : Bool). f false || x) h ∙ or_true (f false)

which : (f : Bool → Bool) → (f false || f true) ≡ true → (s : Bool) × (f s ≡ true)
which f e = go (f false) refl e where
  go : (x : Bool) → f false ≡ x → (x || f true) ≡ true → (s : Bool) × (f s ≡ true)
  go true h k = (false, h)
  go false h k = (true, k)

-- a land is of the tree's family
pub land_family : (t : Linked) → IsTree t → (place : Place) (at : Option ℕ) (land : Cidr) → HasLink t place at land → land.family ≡ t.family
land_family t w Root at land h = ap (λ (c : Cidr). c.family) h.1
land_family t w (Under k s) at land h = ap (λ (c : Cidr). c.family) h.4 ∙ half_family s h.0.block ∙ (w.each k h.0 h.1).family_is

length_numbers : (a n : ℕ) → length (numbers_from a n) ≡ n
unfolding numbers_from
length_numbers a zero = refl
length_numbers a (suc n) = (let rest = length_numbers (a + 1) n in omega arith)

-- no more addresses than the block has
pub covered_fits : (xs : List Cidr) (within : Cidr) → covered_of xs within ≤ size_of within
unfolding addresses_of
covered_fits xs within = omega (arith, count_by-le-length (is_taken xs) (numbers_from within.first (size_of within)), length_numbers within.first (size_of within))

count_none : (p : ℕ → Bool) (xs : List ℕ) → ((x : ℕ) → p x ≡ false) → count_by p xs ≡ 0
count_none p xs h = count_agree p (λ _. false) h xs ∙ go xs where
  go : (xs : List ℕ) → count_by (λ _. false) xs ≡ 0
  go [] = refl
  go (x ∷ xs) = go xs

-- where no node counts, no address is covered
pub covered_none : (t : Linked) (X : Cidr) (strict : Bool) (within : Cidr) → IsTree t → X.family ≡ t.family → ((a : ℕ) → HasHeld t X strict a → ⊥) → covered_of (counting_of (blocks_of t.pool) X strict) within ≡ 0
covered_none t X strict within w fam none = count_none (taken_of t X strict) (addresses_of within) (λ a. not_true (taken_of t X strict a) (λ e. none a (held_from t w X fam strict a e)))

pub covered_no_link : (t : Linked) → IsTree t → (place : Place) (at : Option ℕ) (land within : Cidr) → HasLink t place at land → at ≡ None → covered_of (counting_of (blocks_of t.pool) land false) within ≡ 0
covered_no_link t w place at land within here none = covered_none t land false within w (land_family t w place at land here) (λ a h.
    let lead = (w.links place at land here).leads h.id h.node h.here h.inside in not_both at lead.0 none lead.2)

module _ (t : Linked) (w : IsSound t) (place : Place) (land : Cidr) (id : ℕ) (n : Node) (here : HasLink t place (Some id) land) (e : node_at t.pool id ≡ Some n) where
  fam : land.family ≡ t.family
  fam = land_family t w.tree place (Some id) land here

  own : IsBlock n.block
  own = (w.tree.each id n e).lawful

  pub in_land : IsInside n.block land
  in_land = (let top = (w.tree.links place (Some id) land here).top id refl in subst (λ (x : Node). IsInside x.block land) (one_node t.pool id id top.0 n refl top.1 e) top.2)

  pub under_node : (j : ℕ) (m : Node) → node_at t.pool j ≡ Some m → IsInside m.block land → IsInside m.block n.block
  under_node j m f deep =
      let lead = (w.tree.links place (Some id) land here).leads j m f deep in
      subst (λ (x : Node). IsInside m.block x.block) (one_node t.pool lead.0 id lead.1 n (sym (some_same id lead.0 lead.2)) lead.3 e) lead.4

  -- a node with a count
  pub covered_node : (within : Cidr) → n.count ≢ 0 → IsInside n.block within → covered_of (counting_of (blocks_of t.pool) land false) within ≡ size_of n.block
  covered_node within some inside =
      let ends = ends_of_inside n.block within inside in
      count_agree (taken_of t land false) (has_address n.block)
      (λ a. tests_agree (taken_of t land false a) (has_address n.block a)
      (λ x. let h = held_from t w.tree land fam false a x in address_tested n.block a ((under_node h.id h.node h.here h.inside).each a h.has))
      (λ x. held_to t land false a (record { id = id; node = n; here = e; some = some; inside = in_land; counted = refl; has = address_test n.block a x })))
      (addresses_of within)
      ∙ count_of_inside within n.block ends.0 ends.1

  pub room_of : n.count ≡ 0 → HasRoom n.block
  room_of none = elim (cases_lt n.block.len (width_of n.block.family)) [
    | inl room ↦ room
    | inr full ↦ absurd (w.full id n e (λ k. cc) none false ((w.tree.each id n e).shut (λ room. omega arith) false))
  ]

  -- what counts lies strictly inside the node's block: the halves share it
  pub covered_sides : (X : Cidr) (strict : Bool) (within : Cidr) → X.family ≡ t.family → HasRoom n.block → IsInside n.block X
      → ((a : ℕ) (h : HasHeld t X strict a) → IsInside h.node.block n.block × (h.node.block ≢ n.block))
      → ((s : Bool) (j : ℕ) (m : Node) → node_at t.pool j ≡ Some m → IsInside m.block (half s n.block) → not (strict && is_same m.block X) ≡ true)
      → covered_of (counting_of (blocks_of t.pool) X strict) within ≡ covered_of (counting_of (blocks_of t.pool) (half false n.block) false) within + covered_of (counting_of (blocks_of t.pool) (half true n.block) false) within
  covered_sides X strict within famX room inX below counted =
      count_agree (taken_of t X strict) (λ a. side a false || side a true) agree (addresses_of within)
      ∙ count_either (λ a. side a false) (λ a. side a true) (addresses_of within) apart
    where
      side : ℕ → Bool → Bool
      side a s = taken_of t (half s n.block) false a

      half_fam : (s : Bool) → (half s n.block).family ≡ t.family
      half_fam s = half_family s n.block ∙ (w.tree.each id n e).family_is

      agree : (a : ℕ) → taken_of t X strict a ≡ (side a false || side a true)
      agree a = tests_agree (taken_of t X strict a) (side a false || side a true)
          (λ x.
          let h = held_from t w.tree X famX strict a x in
          let b = below a h in
          let own_m = (w.tree.each h.id h.node h.here).lawful in
          let s = side_of n.block h.node.block own own_m b.0 (longer h.node.block n.block own_m own b.0 b.1) in
          either (side a) s.0 (held_to t (half s.0 n.block) false a (record { id = h.id; node = h.node; here = h.here; some = h.some; inside = s.1; counted = refl; has = h.has })))
          (λ x.
          let s = which (side a) x in
          let h = held_from t w.tree (half s.0 n.block) (half_fam s.0) false a s.1 in
          held_to t X strict a (record { id = h.id; node = h.node; here = h.here; some = h.some; inside = inside_trans h.node.block (half s.0 n.block) X h.inside (inside_trans (half s.0 n.block) n.block X (half_in s.0 n.block room) inX); counted = counted s.0 h.id h.node h.here h.inside; has = h.has }))

      apart : (a : ℕ) → (side a false && side a true) ≡ false
      apart a = not_true (side a false && side a true) (λ x.
          let two = both (side a false) (side a true) x in
          let low = held_from t w.tree (half false n.block) (half_fam false) false a two.0 in
          let high = held_from t w.tree (half true n.block) (half_fam true) false a two.1 in
          sides_apart false true n.block a (λ k. cc) (low.inside.each a low.has) (high.inside.each a high.has))

  -- a node without a count
  pub covered_both : (within : Cidr) → n.count ≡ 0
      → covered_of (counting_of (blocks_of t.pool) land false) within ≡ covered_of (counting_of (blocks_of t.pool) (half false n.block) false) within + covered_of (counting_of (blocks_of t.pool) (half true n.block) false) within
  covered_both within none = covered_sides land false within fam (room_of none) in_land
      (λ a h. (under_node h.id h.node h.here h.inside, λ same. h.some (ap (λ (x : Node). x.count) (one_node t.pool h.id id h.node n (w.tree.one h.id id h.node n h.here e same) h.here e) ∙ none)))
      (λ s j m f i. refl)

-- the node of the block itself, which does not count
pub covered_strict : (t : Linked) (w : IsSound t) (place : Place) (land within : Cidr) (id : ℕ) (n : Node) → HasLink t place (Some id) land → node_at t.pool id ≡ Some n → n.block ≡ within → HasRoom n.block
    → covered_of (counting_of (blocks_of t.pool) within true) within ≡ covered_of (counting_of (blocks_of t.pool) (half false n.block) false) within + covered_of (counting_of (blocks_of t.pool) (half true n.block) false) within
covered_strict t w place land within id n here e same room = covered_sides t w place land id n here e within true within (sym (ap (λ (c : Cidr). c.family) same) ∙ (w.tree.each id n e).family_is) room (subst (IsInside n.block) same (self_in n.block))
    (λ a h. (subst (IsInside h.node.block) (sym same) h.inside, λ k. not_counted h.node.block within (k ∙ same) h.counted))
    (λ s j m f i. ap not (same_false m.block within (i.family ∙ half_family s n.block ∙ ap (λ (c : Cidr). c.family) same) (λ k. in_half_other s n.block m.block room (k ∙ sym same) i)))
  where
    not_counted : (b c : Cidr) → b ≡ c → not (true && is_same b c) ≡ true → ⊥
    not_counted b c k f = (let g : not true ≡ true = sym (ap not (same_true b c k)) ∙ f in cc)

    in_half_other : (s : Bool) (b m : Cidr) → HasRoom b → m ≡ b → IsInside m (half s b) → ⊥
    in_half_other s b m r k i = not_in_half s b r (subst (λ (c : Cidr). IsInside c (half s b)) k i)

-- the same of a single address, which has nothing strictly inside
pub covered_single : (t : Linked) → IsTree t → (within : Cidr) → IsBlock within → within.family ≡ t.family → within.len ≡ width_of within.family → covered_of (counting_of (blocks_of t.pool) within true) within ≡ 0
covered_single t w within hb fam full = covered_none t within true within w fam (λ a h.
    let own_m = (w.each h.id h.node h.here).lawful in
    let short = own_m.short in
    let same_width : width_of h.node.block.family ≡ width_of within.family = ap width_of h.inside.family in
    let same = same_by_len h.node.block within h.inside (omega arith) own_m.short hb.short in
    let f : not true ≡ true = sym (ap not (same_true h.node.block within same)) ∙ h.counted in cc)

-- a node inside the block: what counts for the block lies in the land
pub covered_land : (t : Linked) (w : IsSound t) (place : Place) (land within : Cidr) (strict : Bool) (id : ℕ) (n : Node) → HasLink t place (Some id) land → node_at t.pool id ≡ Some n → within.family ≡ t.family → IsInside within land
    → IsInside n.block within → (strict ≡ true → n.block ≢ within) → (IsInside within n.block → n.block ≡ within)
    → covered_of (counting_of (blocks_of t.pool) within strict) within ≡ covered_of (counting_of (blocks_of t.pool) land false) within
covered_land t w place land within strict id n here e famW inside_land inside other stops = count_agree (taken_of t within strict) (taken_of t land false)
    (λ a. tests_agree (taken_of t within strict a) (taken_of t land false a)
    (λ x. let h = held_from t w.tree within famW strict a x in
    held_to t land false a (record { id = h.id; node = h.node; here = h.here; some = h.some; inside = inside_trans h.node.block within land h.inside inside_land; counted = refl; has = h.has }))
    (λ x. let h = held_from t w.tree land (land_family t w.tree place (Some id) land here) false a x in
    let deep = under_node t w place land id n here e h.id h.node h.here h.inside in
    held_to t within strict a (record { id = h.id; node = h.node; here = h.here; some = h.some; inside = inside_trans h.node.block n.block within deep inside; counted = counted strict refl h.node.block (h.inside.family ∙ land_family t w.tree place (Some id) land here ∙ sym famW) deep; has = h.has })))
    (addresses_of within)
  where
    counted : (s : Bool) → s ≡ strict → (b : Cidr) → b.family ≡ within.family → IsInside b n.block → not (s && is_same b within) ≡ true
    counted false k b f deep = refl
    counted true k b f deep = ap not (same_false b within f (λ same. other (sym k) (stops (subst (λ (c : Cidr). IsInside c n.block) same deep))))

-- a node that is not inside the block: nothing in the land counts
pub covered_apart : (t : Linked) (w : IsSound t) (place : Place) (land within : Cidr) (strict : Bool) (id : ℕ) (n : Node) → HasLink t place (Some id) land → node_at t.pool id ≡ Some n → IsBlock within → within.family ≡ t.family → IsInside within land
    → (IsInside n.block within → ⊥) → (IsInside within n.block → n.block ≡ within) → covered_of (counting_of (blocks_of t.pool) within strict) within ≡ 0
covered_apart t w place land within strict id n here e hb famW inside_land out stops = covered_none t within strict within w.tree famW (λ a h.
    let deep = under_node t w place land id n here e h.id h.node h.here (inside_trans h.node.block within land h.inside inside_land) in
    let own_n = w.tree.each id n e in
    elim (nested within n.block hb own_n.lawful (famW ∙ sym own_n.family_is) a (h.inside.each a h.has) (deep.each a h.has)) [
      | inl under ↦ out (subst (IsInside n.block) (stops under) (self_in n.block))
      | inr over ↦ out over
    ])

-- no node in the land
pub covered_clear : (t : Linked) → IsTree t → (place : Place) (at : Option ℕ) (land within : Cidr) (strict : Bool) → HasLink t place at land → within.family ≡ t.family → IsInside within land → at ≡ None
    → covered_of (counting_of (blocks_of t.pool) within strict) within ≡ 0
covered_clear t w place at land within strict here famW inside_land none = covered_none t within strict within w famW (λ a h.
    let lead = (w.links place at land here).leads h.id h.node h.here (inside_trans h.node.block within land h.inside inside_land) in not_both at lead.0 none lead.2)

pub half_short : (s : Bool) (b : Cidr) → HasRoom b → (half s b).len ≤ width_of (half s b).family
half_short false b room = omega arith
half_short true b room = omega arith

-- what stands under a node lies in the half
pub child_inside : (t : Linked) → IsSound t → (id : ℕ) (n : Node) → node_at t.pool id ≡ Some n → HasRoom n.block → (s : Bool) (j : ℕ) (m : Node) → child s n ≡ Some j → node_at t.pool j ≡ Some m → IsInside m.block (half s n.block)
child_inside t w id n e room s j m k f = in_land t w (Under id s) (half s n.block) j m (n, e, room, sym k, refl) f

pub child_long : (t : Linked) → IsSound t → (id : ℕ) (n : Node) → node_at t.pool id ≡ Some n → HasRoom n.block → (s : Bool) (j : ℕ) (m : Node) → child s n ≡ Some j → node_at t.pool j ≡ Some m → 1 ≤ m.block.len
child_long t w id n e room s j m k f =
    let i = child_inside t w id n e room s j m k f in
    let le = len_of_inside m.block (half s n.block) (w.tree.each j m f).lawful.short (half_short s n.block room) i in
    let is = half_len s n.block in
    omega (arith, le, is)

-- a block inside another is as long at least
pub inner_long : (m within : Cidr) → IsBlock m → IsBlock within → IsInside m within → 1 ≤ within.len → 1 ≤ m.len
inner_long m within hm hw i long = omega (arith, len_of_inside m within hm.short hw.short i, long)

pub halves_fit : (b : Cidr) → HasRoom b → 1 ≤ b.len → (x y : ℕ) → x ≤ size_of (half false b) → y ≤ size_of (half true b) → x + y < 2 ^ 128
halves_fit b room long x y h k = omega (arith, pow_double (width_of b.family) b.len room, size_fits b.family b.len long)
