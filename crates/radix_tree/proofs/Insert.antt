use Rattle.std.proofs.Common.{◌≡◌, ◌≢◌, ℕ, ◌+◌, Bool, true, false, not, refl, sym, ◌∙◌, ap, subst, arith, inl, inr, Option, Some, None, List, ◌∷◌, ◌++◌, replicate}
use Rattle.std.specs.Prelude.{IsPermutation}
use Rattle.std.proofs.lemmas.Bool.{cases_eq}
use Rattle.std.proofs.lemmas.List.Sorted.{IsPermutation-trans, IsPermutation-cons}
use Rattle.inet_num.specs.Net.{Cidr, IsBlock, IsInside}
use Rattle.inet_num.proofs.Nested.{inside_trans}
use Rattle.node_pool.specs.Pooled.{node_at}
use Rattle.radix_tree.specs.declared.Node.{Node}
use Rattle.radix_tree.specs.declared.links.Place.{Place}
use Rattle.radix_tree.specs.declared.links.Place.TheVariants.{Under}
use Rattle.radix_tree.specs.declared.links.Linked.{Linked}
use Rattle.radix_tree.specs.declared.links.Found.{Found}
use Rattle.radix_tree.specs.declared.halves.Joint.{Joint}
use Rattle.radix_tree.specs.Shape.{half, child, HasRoom, HasLink, IsLink, IsTree}
use Rattle.radix_tree.specs.Edits.{CanPut, IsPut}
use Rattle.radix_tree.specs.Listed.{copies, blocks_of, link_count, child_count, IsTallied, IsFull}
use Rattle.radix_tree.specs.Find.{IsFound, IsJoint}
use Rattle.radix_tree.specs.Sound.{IsSound, leaf, IsOver, IsInserted}
use Rattle.radix_tree.proofs.Sides.{self_in, half_family, has_first, half_in, not_in_half, same_side, sides_apart}
use Rattle.radix_tree.proofs.Order.{some_same, not_both, one_node}
use Rattle.radix_tree.proofs.Put.{put_tree}
use Rattle.radix_tree.proofs.Mending.{put_frees, all_but}
use Rattle.radix_tree.proofs.Joints.{other_side}

pub not_same : (s : Bool) → s ≢ not s
not_same false e = cc
not_same true e = cc

-- a node that takes over what the place had
module _ (t : Linked) (w : IsTree t) (place : Place) (at : Option ℕ) (land : Cidr) (here : HasLink t place at land) (n : Node) (lawful : IsBlock n.block) (family : n.block.family ≡ t.family) (inside : IsInside n.block land)
    (clear : (id : ℕ) (m : Node) → at ≡ Some id → node_at t.pool id ≡ Some m → IsInside n.block m.block → ⊥)
    (s : Bool) (there : child s n ≡ at) (other : child (not s) n ≡ None)
    (below : (id : ℕ) (m : Node) → at ≡ Some id → node_at t.pool id ≡ Some m → HasRoom n.block × IsInside m.block (half s n.block)) where
  -- what lies in the land lies in the node's half
  in_side_half : (id : ℕ) (m : Node) → node_at t.pool id ≡ Some m → IsInside m.block land → HasRoom n.block × IsInside m.block (half s n.block)
  in_side_half id m e i =
      let lead = (w.links place at land here).leads id m e i in
      let top = below lead.0 lead.1 lead.2 lead.3 in
      (top.0, inside_trans m.block lead.1.block (half s n.block) lead.4 top.1)

  own_links : (r : Bool) → HasRoom n.block → IsLink t.pool (child r n) (half r n.block)
  own_links r room = elim (same_side r s) [
    | inl same ↦ subst (λ (x : Bool). IsLink t.pool (child x n) (half x n.block)) (sym same) (subst (λ (x : Option ℕ). IsLink t.pool x (half s n.block)) (sym there) (record {
      top = λ id e. (let top = (w.links place at land here).top id e in (top.0, top.1, (below id top.0 e top.1).1));
      leads = λ id m e i. (w.links place at land here).leads id m e (inside_trans m.block n.block land (inside_trans m.block (half s n.block) n.block i (half_in s n.block room)) inside);
    }))
    | inr apart ↦ subst (λ (x : Bool). IsLink t.pool (child x n) (half x n.block)) (sym (other_side r s apart)) (record {
      top = λ id e. absurd (not_both (child (not s) n) id other e);
      leads = λ id m e i.
          let in_land = inside_trans m.block n.block land (inside_trans m.block (half (not s) n.block) n.block i (half_in (not s) n.block room)) inside in
          let first = has_first m.block in
          absurd (sides_apart s (not s) n.block m.block.first (not_same s) ((in_side_half id m e in_land).1.each m.block.first first) (i.each m.block.first first));
    })
  ]

  own_shut : (HasRoom n.block → ⊥) → (r : Bool) → child r n ≡ None
  own_shut full r = elim (same_side r s) [
    | inl same ↦ ap (λ (x : Bool). child x n) same ∙ there ∙ go at refl
    | inr apart ↦ ap (λ (x : Bool). child x n) (other_side r s apart) ∙ other
  ] where
    go : (x : Option ℕ) → at ≡ x → at ≡ None
    go None e = e
    go (Some id) e = (let top = (w.links place at land here).top id e in absurd (full (below id top.0 e top.1).0))

  pub can_put : CanPut t land n
  can_put = record {
    lawful = lawful;
    family_is = family;
    inside = inside;
    shut = own_shut;
    clear = λ id m e i in_m.
        let lead = (w.links place at land here).leads id m e i in
        clear lead.0 lead.1 lead.2 lead.3 (inside_trans n.block m.block lead.1.block in_m lead.4);
    below = λ id m e i. (let half_of = in_side_half id m e i in inside_trans m.block (half s n.block) n.block half_of.1 (half_in s n.block half_of.0));
    children = own_links;
  }

-- a node with a count is put where none lacks a child
pub put_full : (old new : Linked) (place : Place) (i : ℕ) (n : Node) → IsPut old new place i n → IsFull old None → (but : Option ℕ) → (but ≢ Some i → n.count ≢ 0) → IsFull new but
put_full old new place i n h full but counted = λ id q e not_but zero s. elim (h.was id q e) [
  | inl own ↦ absurd (counted (λ same. not_but (same ∙ ap (λ (x : ℕ). Some x) (sym own.0))) (ap (λ (x : Node). x.count) (sym own.1) ∙ zero))
  | inr was ↦
      let full_m : child s was.0 ≢ None = full id was.0 was.1 (λ e. cc) (sym was.2.count ∙ zero) s in
      elim (was.2.links s) [
        | inl same ↦ (λ none. full_m (sym same ∙ none))
        | inr put ↦ (λ none. not_both (child s q) i none put.2)
      ]
]

-- and under the one node that lacks a child
pub put_fills : (old new : Linked) (k : ℕ) (side : Bool) (i : ℕ) (n p : Node) → IsPut old new (Under k side) i n → node_at old.pool k ≡ Some p → child (not side) p ≢ None → IsFull old (Some k) → n.count ≢ 0 → IsFull new None
put_fills old new k side i n p h here one full counted = λ id q e not_but zero s. elim (h.was id q e) [
  | inl own ↦ absurd (counted (ap (λ (x : Node). x.count) (sym own.1) ∙ zero))
  | inr was ↦ elim (was.2.links s) [
    | inl same ↦ elim (cases_eq id k) [
      | inl ids ↦
          let is_p : was.0 ≡ p = one_node old.pool id k was.0 p ids was.1 here in
          elim (same_side s side) [
            | inl sides ↦ (λ none. not_both (child s q) i none (was.2.put s (ap (λ (x : ℕ). Under x side) (sym ids) ∙ ap (λ (x : Bool). Under id x) (sym sides))))
            | inr apart ↦ (λ none. one (ap (λ (x : Bool). child x p) (sym (other_side s side apart)) ∙ ap (child s) (sym is_p) ∙ sym same ∙ none))
          ]
      | inr other ↦ (λ none. full id was.0 was.1 (λ e. let f : k ≡ id = cc in other (sym f)) (sym was.2.count ∙ zero) s (sym same ∙ none))
    ]
    | inr put ↦ (λ none. not_both (child s q) i none put.2)
  ]
]

-- a node over one other has one link
pub over_children : (n : Node) (block : Cidr) (count : ℕ) (s : Bool) (id : ℕ) → IsOver n block count s id → child_count n ≡ 1
over_children n block count false id h = let a = ap link_count h.there in let b = ap link_count h.other in omega arith
over_children n block count true id h = let a = ap link_count h.there in let b = ap link_count h.other in omega arith

-- what is known of a node that was put at a place
abbrev pub IsPlaced : Linked → Linked → Place → ℕ → Node → Type 0
IsPlaced old new place i n = IsPut old new place i n × IsPermutation (copies n ++ blocks_of old.pool) (blocks_of new.pool)
    × ((at : Option ℕ) (land : Cidr) → HasLink old place at land → child_count n ≡ link_count at → IsTallied old → IsTallied new)

pub placed_leaf : (old new : Linked) (place : Place) (i : ℕ) (n : Node) (block : Cidr) → n ≡ leaf block → IsPlaced old new place i n → IsPlaced old new place i (leaf block)
placed_leaf old new place i n block is h = subst (λ (x : Node). IsPlaced old new place i x) is h

-- the leaf
pub inserted_leaf : (old new : Linked) (block : Cidr) (f : Found) → IsSound old → IsBlock block → block.family ≡ old.family → IsFound old block f → f.at ≡ None → (i : ℕ) → IsPut old new f.place i (leaf block)
    → IsPermutation (copies (leaf block) ++ blocks_of old.pool) (blocks_of new.pool)
    → ((at : Option ℕ) (land : Cidr) → HasLink old f.place at land → child_count (leaf block) ≡ link_count at → IsTallied old → IsTallied new)
    → new.pool.spare + 1 ≡ old.pool.spare → IsInserted old new block
inserted_leaf old new block f w lawful family found none i put perm tally spare = record {
  sound = record {
    tree = put_tree old new f.place f.at f.land i (leaf block) w.tree found.here
        (can_put old w.tree f.place f.at f.land found.here (leaf block) lawful family found.inside (λ id m e. absurd (not_both f.at id none e)) false (sym none) refl (λ id m e. absurd (not_both f.at id none e))) put;
    tallied = tally f.at f.land found.here (ap link_count (sym none)) w.tallied;
    full = put_full old new f.place i (leaf block) put w.full None (λ other zero. (let g : 1 ≡ 0 = zero in omega arith));
  };
  family = put.family;
  blocks = perm;
  spare = omega arith;
  frees = λ all. put_frees old new f.place f.at f.land i (leaf block) w.tree found.here put block found.inside (self_in block) (all_but old.pool block all);
}

-- the node between
pub inserted_over : (old new : Linked) (block : Cidr) (f : Found) → IsSound old → IsBlock block → block.family ≡ old.family → IsFound old block f → (id : ℕ) (m n : Node) (s : Bool)
    → f.at ≡ Some id → node_at old.pool id ≡ Some m → m.block ≢ block → HasRoom block → IsInside m.block (half s block) → IsOver n block 1 s id → (i : ℕ) → IsPut old new f.place i n
    → IsPermutation (copies n ++ blocks_of old.pool) (blocks_of new.pool)
    → ((at : Option ℕ) (land : Cidr) → HasLink old f.place at land → child_count n ≡ link_count at → IsTallied old → IsTallied new)
    → new.pool.spare + 1 ≡ old.pool.spare → IsInserted old new block
inserted_over old new block f w lawful family found id m n s there e other room below over i put perm tally spare = record {
  sound = record {
    tree = put_tree old new f.place f.at f.land i n w.tree found.here
        (can_put old w.tree f.place f.at f.land found.here n (subst IsBlock (sym over.block_is) lawful) (ap (λ (b : Cidr). b.family) over.block_is ∙ family) (subst (λ (b : Cidr). IsInside b f.land) (sym over.block_is) found.inside)
        (λ j q js f' i'. other (let same : m ≡ q = one_node old.pool id j m q (some_same id j (sym there ∙ js)) e f' in
        ap (λ (x : Node). x.block) same ∙ found.stops j q js f' (subst (λ (b : Cidr). IsInside b q.block) over.block_is i')))
        s (over.there ∙ sym there) over.other
        (λ j q js f'. (let same : m ≡ q = one_node old.pool id j m q (some_same id j (sym there ∙ js)) e f' in
        (subst HasRoom (sym over.block_is) room, subst (λ (b : Cidr). IsInside q.block (half s b)) (sym over.block_is) (subst (λ (x : Node). IsInside x.block (half s block)) same below))))) put;
    tallied = tally f.at f.land found.here (over_children n block 1 s id over ∙ ap link_count (sym there)) w.tallied;
    full = put_full old new f.place i n put w.full None (λ other zero. (let g : 1 ≡ 0 = sym over.count_is ∙ zero in omega arith));
  };
  family = put.family;
  blocks = subst (λ (xs : List Cidr). IsPermutation (xs ++ blocks_of old.pool) (blocks_of new.pool)) (ap (λ (x : ℕ). replicate x n.block) over.count_is ∙ ap (replicate 1) over.block_is) perm;
  spare = omega arith;
  frees = λ all. put_frees old new f.place f.at f.land i n w.tree found.here put block found.inside (subst (IsInside block) (sym over.block_is) (self_in block)) (all_but old.pool block all);
}

-- the inner node over two
module _ (old mid : Linked) (block : Cidr) (f : Found) (w : IsSound old) (lawful : IsBlock block) (family : block.family ≡ old.family) (found : IsFound old block f) (id : ℕ) (m : Node)
    (there : f.at ≡ Some id) (e : node_at old.pool id ≡ Some m) (j : Joint) (joint : IsJoint f.land block m.block j) (n : Node) (over : IsOver n j.block 0 (not j.high) id)
    (i k : ℕ) (put : IsPut old mid f.place i n) where
  n_in_land : IsInside n.block f.land
  n_in_land = subst (λ (b : Cidr). IsInside b f.land) (sym over.block_is) joint.inside

  same_top : (x : ℕ) (q : Node) → f.at ≡ Some x → node_at old.pool x ≡ Some q → m ≡ q
  same_top x q is g = one_node old.pool id x m q (some_same id x (sym there ∙ is)) e g

  mid_tree : IsTree mid
  mid_tree = put_tree old mid f.place f.at f.land i n w.tree found.here
      (can_put old w.tree f.place f.at f.land found.here n (subst IsBlock (sym over.block_is) joint.lawful) (ap (λ (b : Cidr). b.family) over.block_is ∙ sym (half_family j.high j.block) ∙ sym joint.first.family ∙ family) n_in_land
      (λ x q is g inside.
      let in_m : IsInside j.block m.block = subst (λ (y : Node). IsInside j.block y.block) (sym (same_top x q is g)) (subst (λ (b : Cidr). IsInside b q.block) over.block_is inside) in
      not_in_half (not j.high) j.block joint.room (inside_trans j.block m.block (half (not j.high) j.block) in_m joint.second))
      (not j.high) (over.there ∙ sym there) over.other
      (λ x q is g. (
        subst HasRoom (sym over.block_is) joint.room,
        subst (λ (b : Cidr). IsInside q.block (half (not j.high) b)) (sym over.block_is) (subst (λ (y : Node). IsInside y.block (half (not j.high) j.block)) (same_top x q is g) joint.second),
      ))) put

  not_not : (s : Bool) → not (not s) ≡ s
  not_not false = refl
  not_not true = refl

  open_side : child j.high n ≡ None
  open_side = ap (λ (s : Bool). child s n) (sym (not_not j.high)) ∙ over.other

  pub open_link : HasLink mid (Under i j.high) None (half j.high j.block)
  open_link = (n, put.put, subst HasRoom (sym over.block_is) joint.room, sym open_side, ap (half j.high) (sym over.block_is))

  pub inserted_join : (new : Linked) → IsPut mid new (Under i j.high) k (leaf block)
      → IsPermutation (copies n ++ blocks_of old.pool) (blocks_of mid.pool)
      → ((at : Option ℕ) (land : Cidr) → HasLink old f.place at land → child_count n ≡ link_count at → IsTallied old → IsTallied mid)
      → mid.pool.spare + 1 ≡ old.pool.spare
      → IsPermutation (copies (leaf block) ++ blocks_of mid.pool) (blocks_of new.pool)
      → ((at : Option ℕ) (land : Cidr) → HasLink mid (Under i j.high) at land → child_count (leaf block) ≡ link_count at → IsTallied mid → IsTallied new)
      → new.pool.spare + 1 ≡ mid.pool.spare → IsInserted old new block
  inserted_join new again perm tally spare perm2 tally2 spare2 =
      let first : IsPermutation (blocks_of old.pool) (blocks_of mid.pool) = subst (λ (x : ℕ). IsPermutation (replicate x n.block ++ blocks_of old.pool) (blocks_of mid.pool)) over.count_is perm in
      record {
        sound = record {
          tree = put_tree mid new (Under i j.high) None (half j.high j.block) k (leaf block) mid_tree open_link
              (can_put mid mid_tree (Under i j.high) None (half j.high j.block) open_link (leaf block) lawful (family ∙ sym put.family) joint.first
              (λ x q is. (let g : ⊥ = cc in absurd g)) false refl refl (λ x q is. (let g : ⊥ = cc in absurd g))) again;
          tallied = tally2 None (half j.high j.block) open_link refl (tally f.at f.land found.here (over_children n j.block 0 (not j.high) id over ∙ ap link_count (sym there)) w.tallied);
          full = put_fills mid new i j.high k (leaf block) n again put.put (λ none. not_both (child (not j.high) n) id none over.there)
              (put_full old mid f.place i n put w.full (Some i) (λ other. absurd (other refl))) (λ zero. (let g : 1 ≡ 0 = zero in omega arith));
        };
        family = again.family ∙ put.family;
        blocks = IsPermutation-trans (block ∷ blocks_of old.pool) (block ∷ blocks_of mid.pool) (blocks_of new.pool) (IsPermutation-cons block (blocks_of old.pool) (blocks_of mid.pool) first) perm2;
        spare = omega arith;
        frees = λ all.
            let in_n : IsInside block n.block = subst (IsInside block) (sym over.block_is) (inside_trans block (half j.high j.block) j.block joint.first (half_in j.high j.block joint.room)) in
            put_frees mid new (Under i j.high) None (half j.high j.block) k (leaf block) mid_tree open_link again block joint.first (self_in block)
            (put_frees old mid f.place f.at f.land i n w.tree found.here put block found.inside in_n (all_but old.pool block all));
      }
