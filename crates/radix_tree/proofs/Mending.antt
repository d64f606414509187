-- What nodes say stays right where the nodes that it follows from stay, and a mended node makes the ones around it mendable.
use Rattle.std.proofs.Common.{◌≡◌, ◌≢◌, ◌⊎◌, ℕ, ◌+◌, Bool, true, false, refl, sym, ◌∙◌, ap, subst, arith, inl, inr, Option, Some, None, replicate}
use Rattle.std.specs.Prelude.{cond, nat_lt}
use Rattle.std.proofs.lemmas.Bool.{cases_lt, cases_eq}
use Rattle.inet_num.specs.Net.{Cidr, width_of, IsBlock, IsInside}
use Rattle.inet_num.proofs.Nested.{inside_trans, same_by_len}
use Rattle.node_pool.specs.Pooled.{Pooled, node_at}
use Rattle.radix_tree.specs.declared.Node.{Node}
use Rattle.radix_tree.specs.Figures.{Figures, figures}
use Rattle.radix_tree.specs.declared.links.Place.{Place}
use Rattle.radix_tree.specs.declared.links.Place.TheVariants.{Root, Under}
use Rattle.radix_tree.specs.declared.links.Linked.{Linked}
use Rattle.radix_tree.specs.Shape.{half, child, HasRoom, LeadsTo, HasLink, IsLink, IsTree, IsSet}
use Rattle.radix_tree.specs.Edits.{IsPut, IsCut}
use Rattle.radix_tree.specs.Listed.{copies_at, blocks_of, link_count, child_count_at, Recounts}
use Rattle.radix_tree.specs.Frees.{lesser, free_beside, side_free, if_uncounted, free_of, total_said, side_total, wrapped, total_of, covered_said, side_covered, wrapped_wide, own_size, by_count, covered_in, figures_of, HasFrees, HasFreesBut, HasFreesIn, IsAlike, Refrees, RefreesOne}
use Rattle.radix_tree.specs.Sound.{IsSound}
use Rattle.radix_tree.proofs.Sides.{has_first, half_in, not_in_half, sides_apart, same_side, side_of, longer}
use Rattle.radix_tree.proofs.Order.{some_same, not_both, one_node}
use Rattle.radix_tree.proofs.Slots.{sum_same, flat_same}
use Rattle.radix_tree.proofs.Built.{live_of}

-- a child has a node, in the half
pub child_node : (t : Linked) → IsTree t → (id : ℕ) (m : Node) (s : Bool) (c : ℕ) → node_at t.pool id ≡ Some m → child s m ≡ Some c → (k : Node) × (node_at t.pool c ≡ Some k) × IsInside k.block (half s m.block) × HasRoom m.block
child_node t w id m s c e is = elim (cases_lt m.block.len (width_of m.block.family)) [
  | inl room ↦ (let top = (w.links (Under id s) (child s m) (half s m.block) (m, e, room, refl, refl)).top c is in (top.0, top.1, top.2, room))
  | inr full ↦ absurd (not_both (child s m) c ((w.each id m e).shut (λ room. omega arith) s) is)
]

-- a child lies in its node's block, so what the child's block has, the node's has
pub child_in : (m k : Node) (s : Bool) → HasRoom m.block → IsInside k.block (half s m.block) → IsInside k.block m.block
child_in m k s room i = inside_trans k.block (half s m.block) m.block i (half_in s m.block room)

-- the node of a link says the same before and after
abbrev SaysSame : Pooled Node → Pooled Node → ℕ → Type 0
SaysSame old new c = (k : Node) × (q : Node) × (node_at old c ≡ Some k) × (node_at new c ≡ Some q) × (q.block ≡ k.block) × (figures q ≡ figures k)

side_same : (old new : Pooled Node) (len : ℕ) (x : Option ℕ) → ((c : ℕ) → x ≡ Some c → SaysSame old new c) → side_free new len x ≡ side_free old len x
side_same old new len None h = refl
side_same old new len (Some c) h =
    let r = h c refl in
    let k = r.0 in
    let q = r.1 in
    ap (free_beside len) r.3
    ∙ ap (λ (b : Cidr). cond (nat_lt len b.len) (Some (len + 1)) q.free) r.4
    ∙ ap (λ (f : Figures). cond (nat_lt len k.block.len) (Some (len + 1)) f.free) r.5
    ∙ sym (ap (free_beside len) r.2)

free_same : (old new : Pooled Node) (m q : Node) → q.block ≡ m.block → q.count ≡ m.count → ((s : Bool) → child s q ≡ child s m) → ((s : Bool) (c : ℕ) → child s m ≡ Some c → SaysSame old new c) → free_of new q ≡ free_of old m
free_same old new m q block count links says =
    ap (λ (c : ℕ). if_uncounted c (lesser (side_free new (q.block.len + 1) q.low) (side_free new (q.block.len + 1) q.high))) count
    ∙ ap (λ (f : Option ℕ). if_uncounted m.count (lesser f (side_free new (q.block.len + 1) q.high))) (side false)
    ∙ ap (λ (f : Option ℕ). if_uncounted m.count (lesser (side_free old (m.block.len + 1) m.low) f)) (side true)
  where
    side : (s : Bool) → side_free new (q.block.len + 1) (child s q) ≡ side_free old (m.block.len + 1) (child s m)
    side s =
        ap (λ (b : Cidr). side_free new (b.len + 1) (child s q)) block
        ∙ ap (side_free new (m.block.len + 1)) (links s)
        ∙ side_same old new (m.block.len + 1) (child s m) (says s)

total_side_same : (old new : Pooled Node) (x : Option ℕ) → ((c : ℕ) → x ≡ Some c → SaysSame old new c) → side_total new x ≡ side_total old x
total_side_same old new None h = refl
total_side_same old new (Some c) h =
    let r = h c refl in
    ap total_said r.3 ∙ ap (λ (f : Figures). f.total) r.5 ∙ sym (ap total_said r.2)

total_same : (old new : Pooled Node) (m q : Node) → q.count ≡ m.count → ((s : Bool) → child s q ≡ child s m) → ((s : Bool) (c : ℕ) → child s m ≡ Some c → SaysSame old new c) → total_of new q ≡ total_of old m
total_same old new m q count links says =
    ap (λ (c : ℕ). wrapped (wrapped c (side_total new q.low)) (side_total new q.high)) count
    ∙ ap (λ (x : ℕ). wrapped (wrapped m.count x) (side_total new q.high)) (side false)
    ∙ ap (λ (x : ℕ). wrapped (wrapped m.count (side_total old m.low)) x) (side true)
  where
    side : (s : Bool) → side_total new (child s q) ≡ side_total old (child s m)
    side s = ap (side_total new) (links s) ∙ total_side_same old new (child s m) (says s)

covered_side_same : (old new : Pooled Node) (x : Option ℕ) → ((c : ℕ) → x ≡ Some c → SaysSame old new c) → side_covered new x ≡ side_covered old x
covered_side_same old new None h = refl
covered_side_same old new (Some c) h =
    let r = h c refl in
    ap covered_said r.3 ∙ ap (λ (f : Figures). f.covered) r.5 ∙ sym (ap covered_said r.2)

covered_same : (old new : Pooled Node) (m q : Node) → q.block ≡ m.block → q.count ≡ m.count → ((s : Bool) → child s q ≡ child s m) → ((s : Bool) (c : ℕ) → child s m ≡ Some c → SaysSame old new c) → covered_in new q ≡ covered_in old m
covered_same old new m q block count links says =
    ap (λ (c : ℕ). by_count c (own_size q.block.len q.block) (wrapped_wide (side_covered new q.low) (side_covered new q.high))) count
    ∙ ap (λ (b : Cidr). by_count m.count (own_size b.len b) (wrapped_wide (side_covered new q.low) (side_covered new q.high))) block
    ∙ ap (λ (x : ℕ). by_count m.count (own_size m.block.len m.block) (wrapped_wide x (side_covered new q.high))) (side false)
    ∙ ap (λ (x : ℕ). by_count m.count (own_size m.block.len m.block) (wrapped_wide (side_covered old m.low) x)) (side true)
  where
    side : (s : Bool) → side_covered new (child s q) ≡ side_covered old (child s m)
    side s = ap (side_covered new) (links s) ∙ covered_side_same old new (child s m) (says s)

figures_same : (old new : Pooled Node) (m q : Node) → q.block ≡ m.block → q.count ≡ m.count → ((s : Bool) → child s q ≡ child s m) → ((s : Bool) (c : ℕ) → child s m ≡ Some c → SaysSame old new c) → figures_of new q ≡ figures_of old m
figures_same old new m q block count links says =
    ap (λ (f : Option ℕ). let x : Figures = record { free = f; total = total_of new q; covered = covered_in new q } in x) (free_same old new m q block count links says)
    ∙ ap (λ (n : ℕ). let x : Figures = record { free = free_of old m; total = n; covered = covered_in new q } in x) (total_same old new m q count links says)
    ∙ ap (λ (n : ℕ). let x : Figures = record { free = free_of old m; total = total_of old m; covered = n } in x) (covered_same old new m q block count links says)

-- ---- a node was put around the block

pub put_frees : (old new : Linked) (place : Place) (before : Option ℕ) (land : Cidr) (i : ℕ) (n : Node) → IsTree old → HasLink old place before land → IsPut old new place i n → (block : Cidr) → IsInside block land → IsInside block n.block
    → HasFreesBut old.pool block → HasFreesBut new.pool block
put_frees old new place before land i n w here h block in_land in_n frees = λ id q e out. elim (h.was id q e) [
  | inl own ↦ absurd (out (subst (λ (x : Node). IsInside block x.block) (sym own.1) in_n))
  | inr was ↦
      let m = was.0 in
      let out_m : IsInside block m.block → ⊥ = λ k. out (subst (IsInside block) (sym was.2.block) k) in
      was.2.figures_are ∙ frees id m was.1 out_m ∙ sym (figures_same old.pool new.pool m q was.2.block was.2.count (links id m q was.1 was.2 out_m) (says id m was.1))
] where
  links : (id : ℕ) (m q : Node) → node_at old.pool id ≡ Some m → IsSet place (Some i) id m q → (IsInside block m.block → ⊥) → (s : Bool) → child s q ≡ child s m
  links id m q e set out s = elim (set.links s) [
    | inl same ↦ same
    | inr put ↦
        let there : HasLink old (Under id s) before land = subst (λ (x : Place). HasLink old x before land) put.1 here in
        let land_is : land ≡ half s m.block = there.4 ∙ ap (λ (x : Node). half s x.block) (one_node old.pool id id there.0 m refl there.1 e) in
        absurd (out (inside_trans block (half s m.block) m.block (subst (IsInside block) land_is in_land) (half_in s m.block put.0)))
  ]

  says : (id : ℕ) (m : Node) → node_at old.pool id ≡ Some m → (s : Bool) (c : ℕ) → child s m ≡ Some c → SaysSame old.pool new.pool c
  says id m e s c is =
      let k = child_node old w id m s c e is in
      let kept = h.kept c k.0 k.1 in
      (k.0, kept.0, k.1, kept.1, kept.2.block, kept.2.figures_are)

-- ---- the count of a node around the block was set

pub recount_frees : (old new : Linked) (i count : ℕ) (n : Node) → IsTree old → node_at old.pool i ≡ Some n → Recounts old new i count → (block : Cidr) → IsInside block n.block → HasFreesBut old.pool block → HasFreesBut new.pool block
recount_frees old new i count n w here h block in_n frees = λ id q e out. elim (cases_eq id i) [
  | inl same ↦ absurd (out (subst (λ (x : Node). IsInside block x.block) (one_node new.pool i id (record n { count = count }) q (sym same) (h.node n here) e) in_n))
  | inr other ↦
      let was = sym (h.others id other) ∙ e in
      frees id q was out ∙ sym (figures_same old.pool new.pool q q refl refl (λ s. refl) (says id q was))
] where
  says : (id : ℕ) (m : Node) → node_at old.pool id ≡ Some m → (s : Bool) (c : ℕ) → child s m ≡ Some c → SaysSame old.pool new.pool c
  says id m e s c is =
      let k = child_node old w id m s c e is in
      elim (cases_eq c i) [
        | inl same ↦
            let own : n ≡ k.0 = one_node old.pool i c n k.0 (sym same) here k.1 in
            (k.0, record n { count = count }, k.1, ap (node_at new.pool) same ∙ h.node n here, ap (λ (x : Node). x.block) own, ap (λ (x : Node). figures x) own)
        | inr other ↦ (k.0, k.0, k.1, h.others c other ∙ k.1, refl, refl)
      ]

-- ---- a node around the block was cut out

pub cut_frees : (old new : Linked) (place : Place) (land : Cidr) (i : ℕ) (n : Node) (side : Bool) → IsTree old → HasLink old place (Some i) land → IsCut old new place i n side → (block : Cidr) → IsInside block n.block
    → HasFreesBut old.pool block → HasFreesBut new.pool block
cut_frees old new place land i n side w here h block in_n frees = λ id q e out.
    let was = (h.was id q e).1 in
    let m = was.0 in
    let out_m : IsInside block m.block → ⊥ = λ k. out (subst (IsInside block) (sym was.2.block) k) in
    was.2.figures_are ∙ frees id m was.1 out_m ∙ sym (figures_same old.pool new.pool m q was.2.block was.2.count (links id m q was.1 was.2 out_m) (says id m was.1 out_m))
  where
    -- a node with the cut one as a child is around the block
    above : (id : ℕ) (m : Node) (s : Bool) → node_at old.pool id ≡ Some m → child s m ≡ Some i → IsInside block m.block
    above id m s e is =
        let k = child_node old w id m s i e is in
        let own : k.0 ≡ n = one_node old.pool i i k.0 n refl k.1 h.here in
        inside_trans block n.block m.block in_n (subst (λ (x : Node). IsInside x.block m.block) own (child_in m k.0 s k.3 k.2))

    links : (id : ℕ) (m q : Node) → node_at old.pool id ≡ Some m → IsSet place (child side n) id m q → (IsInside block m.block → ⊥) → (s : Bool) → child s q ≡ child s m
    links id m q e set out s = elim (set.links s) [
      | inl same ↦ same
      | inr put ↦
          let there : HasLink old (Under id s) (Some i) land = subst (λ (x : Place). HasLink old x (Some i) land) put.1 here in
          let own : child s m ≡ Some i = ap (child s) (one_node old.pool id id m there.0 refl e there.1) ∙ sym there.3 in
          absurd (out (above id m s e own))
    ]

    says : (id : ℕ) (m : Node) → node_at old.pool id ≡ Some m → (IsInside block m.block → ⊥) → (s : Bool) (c : ℕ) → child s m ≡ Some c → SaysSame old.pool new.pool c
    says id m e out s c is =
        let k = child_node old w id m s c e is in
        let kept = h.kept c k.0 (λ same. out (above id m s e (is ∙ ap (λ (x : ℕ). Some x) same))) k.1 in
        (k.0, kept.0, k.1, kept.1, kept.2.block, kept.2.figures_are)

-- where no node is around the block but wrong, all is right
pub all_but : (pool : Pooled Node) (block : Cidr) → HasFrees pool → HasFreesBut pool block
all_but pool block h = λ id n e out. h id n e

-- ---- what nodes say was set

alike_self : (m : Node) → IsAlike m m
alike_self m = record { block = refl; count = refl; low = refl; high = refl }

pub refreed_one : (old new : Linked) (id : ℕ) (n : Node) (says : Figures) → node_at old.pool id ≡ Some n → RefreesOne old new id says → Refrees old new
refreed_one old new id n says here h = record {
  family = h.family;
  root = h.root;
  spare = h.spare;
  kept = λ j m e. elim (cases_eq j id) [
    | inl same ↦ (record n { free = says.free; total = says.total; covered = says.covered }, ap (node_at new.pool) same ∙ h.node n here, subst (λ (x : Node). IsAlike x (record n { free = says.free; total = says.total; covered = says.covered })) (one_node old.pool id j n m (sym same) here e) (record { block = refl; count = refl; low = refl; high = refl }))
    | inr other ↦ (m, h.others j other ∙ e, alike_self m)
  ];
  was = λ j q e. elim (cases_eq j id) [
    | inl same ↦ (n, ap (node_at old.pool) same ∙ here, subst (IsAlike n) (one_node new.pool id j (record n { free = says.free; total = says.total; covered = says.covered }) q (sym same) (h.node n here) e) (record { block = refl; count = refl; low = refl; high = refl }))
    | inr other ↦ (q, sym (h.others j other) ∙ e, alike_self q)
  ];
}

alike_both : (a b c : Node) → IsAlike a b → IsAlike b c → IsAlike a c
alike_both a b c h k = record { block = k.block ∙ h.block; count = k.count ∙ h.count; low = k.low ∙ h.low; high = k.high ∙ h.high }

pub refreed_both : (a b c : Linked) → Refrees a b → Refrees b c → Refrees a c
refreed_both a b c h k = record {
  family = k.family ∙ h.family;
  root = k.root ∙ h.root;
  spare = k.spare ∙ h.spare;
  kept = λ id m e. (let one = h.kept id m e in let two = k.kept id one.0 one.1 in (two.0, two.1, alike_both m one.0 two.0 one.2 two.2));
  was = λ id m e. (let two = k.was id m e in let one = h.was id two.0 two.1 in (one.0, one.1, alike_both one.0 two.0 m one.2 two.2));
}

alike_child : (m n : Node) → IsAlike m n → (s : Bool) → child s n ≡ child s m
alike_child m n h false = h.low
alike_child m n h true = h.high

module _ (old new : Linked) (h : Refrees old new) where
  slots_same : {X : Type 0} (f : Option Node → X) → ((m n : Node) → IsAlike m n → f (Some n) ≡ f (Some m)) → (j : ℕ) → f (node_at new.pool j) ≡ f (node_at old.pool j)
  slots_same f same j = go (node_at new.pool j) (node_at old.pool j) refl refl where
    go : (x y : Option Node) → node_at new.pool j ≡ x → node_at old.pool j ≡ y → f x ≡ f y
    go None None e k = refl
    go None (Some m) e k = let kept = h.kept j m k in absurd (not_both (node_at new.pool j) kept.0 e kept.1)
    go (Some n) None e k = let was = h.was j n e in absurd (not_both (node_at old.pool j) was.0 k was.1)
    go (Some n) (Some m) e k =
        let kept = h.kept j m k in
        same m n (subst (IsAlike m) (one_node new.pool j j kept.0 n refl kept.1 e) kept.2)

  pub refreed_blocks : blocks_of new.pool ≡ blocks_of old.pool
  refreed_blocks = flat_same copies_at refl new.pool.slots old.pool.slots (slots_same copies_at (λ m n s. ap (λ (x : ℕ). replicate x n.block) s.count ∙ ap (replicate m.count) s.block))

  keeps_lead : (at : Option ℕ) (b : Cidr) → LeadsTo old.pool at b → LeadsTo new.pool at b
  keeps_lead at b l = let k = h.kept l.0 l.1 l.3 in (l.0, k.0, l.2, k.1, subst (IsInside b) (sym k.2.block) l.4)

  keeps_link : (at : Option ℕ) (land : Cidr) → IsLink old.pool at land → IsLink new.pool at land
  keeps_link at land l = record {
    top = λ id e. (let top = l.top id e in let k = h.kept id top.0 top.1 in (k.0, k.1, subst (λ (b : Cidr). IsInside b land) (sym k.2.block) top.2));
    leads = λ id q e i. (let m = h.was id q e in subst (LeadsTo new.pool at) (sym m.2.block) (keeps_lead at m.0.block (l.leads id m.0 m.1 (subst (λ (b : Cidr). IsInside b land) m.2.block i))));
  }

  old_link : (q : Place) (at : Option ℕ) (land : Cidr) → HasLink new q at land → HasLink old q at land
  old_link Root at land k = (k.0 ∙ h.root, k.1 ∙ ap (λ f. record { family = f; first = 0; len = 0 }) h.family)
  old_link (Under m r) at land k = (let w = h.was m k.0 k.1 in (w.0, w.1, subst HasRoom w.2.block k.2, k.3 ∙ alike_child w.0 k.0 w.2 r, k.4 ∙ ap (half r) w.2.block))

  pub refreed_link : (q : Place) (at : Option ℕ) (land : Cidr) → HasLink old q at land → HasLink new q at land
  refreed_link Root at land k = (k.0 ∙ sym h.root, k.1 ∙ ap (λ f. record { family = f; first = 0; len = 0 }) (sym h.family))
  refreed_link (Under m r) at land k = (let w = h.kept m k.0 k.1 in (w.0, w.1, subst HasRoom (sym w.2.block) k.2, k.3 ∙ sym (alike_child k.0 w.0 w.2 r), k.4 ∙ ap (half r) (sym w.2.block)))

  pub refreed_tree : IsTree old → IsTree new
  refreed_tree w = record {
    each = λ id q e.
        let m = h.was id q e in
        let own = w.each id m.0 m.1 in
        record {
          lawful = subst IsBlock (sym m.2.block) own.lawful;
          family_is = ap (λ (b : Cidr). b.family) m.2.block ∙ own.family_is ∙ sym h.family;
          shut = λ full s. alike_child m.0 q m.2 s ∙ own.shut (λ room. full (subst HasRoom (sym m.2.block) room)) s;
        };
    one = λ x y p q e f same. (let a = h.was x p e in let b = h.was y q f in w.one x y a.0 b.0 a.1 b.1 (sym a.2.block ∙ same ∙ b.2.block));
    links = λ q at land k. keeps_link at land (w.links q at land (old_link q at land k));
  }

  pub refreed_sound : IsSound old → IsSound new
  refreed_sound w = record {
    tree = refreed_tree w.tree;
    tallied =
        let children = sum_same child_count_at refl new.pool.slots old.pool.slots (slots_same child_count_at (λ m n s. (let low = ap link_count s.low in let high = ap link_count s.high in omega arith))) in
        let live = sum_same live_of refl new.pool.slots old.pool.slots (slots_same live_of (λ m n s. refl)) in
        let tally = w.tallied in
        let root = ap link_count h.root in
        omega arith;
    full = λ id q e but none s. (let m = h.was id q e in λ bare. w.full id m.0 m.1 (λ f. cc) (sym m.2.count ∙ none) s (sym (alike_child m.0 q m.2 s) ∙ bare));
  }

-- ---- a node was mended, and those below it were right

module _ (t new : Linked) (w : IsTree t) (id : ℕ) (n : Node) (here : node_at t.pool id ≡ Some n) (h : RefreesOne t new id (figures_of t.pool n)) (block : Cidr) (in_n : IsInside block n.block) (but : HasFreesBut t.pool block)
    (below : (j : ℕ) (m : Node) → node_at t.pool j ≡ Some m → j ≢ id → IsInside m.block n.block → figures m ≡ figures_of t.pool m) where
  now : node_at new.pool id ≡ Some (record n { free = free_of t.pool n; total = total_of t.pool n; covered = covered_in t.pool n })
  now = h.node n here

  -- a node whose children are others says the same
  same_of : (j : ℕ) (m q : Node) → node_at t.pool j ≡ Some m → q.block ≡ m.block → q.count ≡ m.count → ((s : Bool) → child s q ≡ child s m) → ((s : Bool) (k : Node) → HasRoom m.block → IsInside k.block (half s m.block) → k ≢ n) → figures_of new.pool q ≡ figures_of t.pool m
  same_of j m q e block count links other = figures_same t.pool new.pool m q block count links (λ s c is.
      let k = child_node t w j m s c e is in
      let not_id : c ≢ id = λ same. other s k.0 k.3 k.2 (one_node t.pool c id k.0 n same k.1 here) in
      (k.0, k.0, k.1, h.others c not_id ∙ k.1, refl, refl))

  own_right : (q : Node) → node_at new.pool id ≡ Some q → figures q ≡ figures_of new.pool q
  own_right q e =
      let is : record n { free = free_of t.pool n; total = total_of t.pool n; covered = covered_in t.pool n } ≡ q = one_node new.pool id id (record n { free = free_of t.pool n; total = total_of t.pool n; covered = covered_in t.pool n }) q refl now e in
      subst (λ (x : Node). figures x ≡ figures_of new.pool x) is (sym (same_of id n (record n { free = free_of t.pool n; total = total_of t.pool n; covered = covered_in t.pool n }) here refl refl links (λ s k room i same. not_in_half s n.block room (subst (λ (x : Node). IsInside x.block (half s n.block)) same i))))
    where
      links : (s : Bool) → child s (record n { free = free_of t.pool n; total = total_of t.pool n; covered = covered_in t.pool n }) ≡ child s n
      links false = refl
      links true = refl

  other_right : (j : ℕ) (q : Node) → node_at new.pool j ≡ Some q → j ≢ id → ((IsInside block q.block → ⊥) ⊎ IsInside q.block n.block) → figures q ≡ figures_of new.pool q
  other_right j q e other cases =
      let was = sym (h.others j other) ∙ e in
      elim cases [
        | inl out ↦ but j q was out ∙ sym (same_of j q q was refl refl (λ s. refl) (λ s k room i same.
            out (inside_trans block n.block q.block in_n (subst (λ (x : Node). IsInside x.block q.block) same (child_in q k s room i)))))
        | inr deep ↦ below j q was other deep ∙ sym (same_of j q q was refl refl (λ s. refl) (λ s k room i same.
            not_in_half s q.block room (inside_trans q.block n.block (half s q.block) deep (subst (λ (x : Node). IsInside x.block (half s q.block)) same i))))
      ]

  pub mended_but : HasFreesBut new.pool block
  mended_but = λ j q e out. elim (cases_eq j id) [
    | inl same ↦ own_right q (ap (node_at new.pool) (sym same) ∙ e)
    | inr other ↦ other_right j q e other (inl out)
  ]

  pub mended_in : (place : Place) (land : Cidr) → HasLink t place (Some id) land → HasFreesIn new.pool block land
  mended_in place land link = (
    mended_but,
    λ j q e i. elim (cases_eq j id) [
      | inl same ↦ own_right q (ap (node_at new.pool) (sym same) ∙ e)
      | inr other ↦
          let lead = (w.links place (Some id) land link).leads j q (sym (h.others j other) ∙ e) i in
          let deep : IsInside q.block n.block = subst (λ (x : Node). IsInside q.block x.block) (one_node t.pool lead.0 id lead.1 n (sym (some_same id lead.0 lead.2)) lead.3 here) lead.4 in
          other_right j q e other (inr deep)
    ],
  )

-- below the block itself no node is around it
pub below_own : (t : Linked) → IsTree t → (id : ℕ) (n : Node) → node_at t.pool id ≡ Some n → (block : Cidr) → n.block ≡ block → HasFreesBut t.pool block
    → (j : ℕ) (m : Node) → node_at t.pool j ≡ Some m → j ≢ id → IsInside m.block n.block → figures m ≡ figures_of t.pool m
below_own t w id n here block same but j m e other i = but j m e (λ around.
    let less = longer m.block n.block (w.each j m e).lawful (w.each id n here).lawful i (λ is. other (w.one j id m n e here is)) in
    let back : IsInside n.block m.block = subst (λ (b : Cidr). IsInside b m.block) (sym same) around in
    let is = same_by_len n.block m.block back (omega arith) (w.each id n here).lawful.short (w.each j m e).lawful.short in
    other (w.one j id m n e here (sym is)))

-- below a node around the block, once the half with the block was mended
pub below_half : (t : Linked) → IsTree t → (id : ℕ) (n : Node) → node_at t.pool id ≡ Some n → (block : Cidr) (side : Bool) → IsInside block (half side n.block) → HasFreesIn t.pool block (half side n.block)
    → (j : ℕ) (m : Node) → node_at t.pool j ≡ Some m → j ≢ id → IsInside m.block n.block → figures m ≡ figures_of t.pool m
below_half t w id n here block side in_half h j m e other i =
    let own_m = (w.each j m e).lawful in
    let own_n = (w.each id n here).lawful in
    let s = side_of n.block m.block own_n own_m i (longer m.block n.block own_m own_n i (λ is. other (w.one j id m n e here is))) in
    elim (same_side s.0 side) [
      | inl same ↦ h.1 j m e (subst (λ (r : Bool). IsInside m.block (half r n.block)) same s.1)
      | inr apart ↦ h.0 j m e (λ around.
          let first = has_first block in
          sides_apart s.0 side n.block block.first apart (s.1.each block.first (around.each block.first first)) (in_half.each block.first first))
    ]

-- no node stands at the place, or the one there is not around the block
pub in_none : (t : Linked) → IsTree t → (at : Option ℕ) (place : Place) (land block : Cidr) → HasLink t place at land → at ≡ None → HasFreesBut t.pool block → HasFreesIn t.pool block land
in_none t w at place land block link none but = (but, λ j m e i. (let lead = (w.links place at land link).leads j m e i in absurd (not_both at lead.0 none lead.2)))

pub in_apart : (t : Linked) → IsTree t → (id : ℕ) (n : Node) (place : Place) (land block : Cidr) → HasLink t place (Some id) land → node_at t.pool id ≡ Some n → (IsInside block n.block → ⊥) → HasFreesBut t.pool block → HasFreesIn t.pool block land
in_apart t w id n place land block link here out but = (
  but,
  λ j m e i. but j m e (λ around.
      let lead = (w.links place (Some id) land link).leads j m e i in
      let deep : IsInside m.block n.block = subst (λ (x : Node). IsInside m.block x.block) (one_node t.pool lead.0 id lead.1 n (sym (some_same id lead.0 lead.2)) lead.3 here) lead.4 in
      out (inside_trans block m.block n.block around deep)),
)
