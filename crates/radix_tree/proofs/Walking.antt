-- A walk by a stack of links: what it still stands for, that it does not overflow, and that it ends.
use Rattle.std.proofs.Common.{◌≡◌, ℕ, zero, suc, ◌+◌, ◌-◌, ◌*◌, ◌<◌, ◌≤◌, Bool, true, false, refl, sym, ◌∙◌, ap, subst, arith, inl, inr, Option, Some, None, List, [], ◌∷◌, ◌++◌, length, append-nil}
use Rattle.std.specs.Prelude.{IsSome}
use Rattle.std.proofs.lemmas.Bool.{cases_lt}
use Rattle.std.proofs.lemmas.List.{append_assoc}
use Rattle.inet_num.specs.Net.{Cidr, width_of}
use Rattle.inet_num.proofs.Numbers.{width_small}
use Rattle.node_pool.specs.Pooled.{Pooled, node_at, IsLive}
use Rattle.radix_tree.specs.declared.Node.{Node}
use Rattle.radix_tree.specs.declared.Entry.{Entry}
use Rattle.radix_tree.specs.declared.links.Place.TheVariants.{Under}
use Rattle.radix_tree.specs.declared.links.Linked.{Linked}
use Rattle.radix_tree.specs.Shape.{half, child, IsLink, IsTree, rank, rank_of}
use Rattle.radix_tree.specs.Listed.{blocks_of}
use Rattle.radix_tree.specs.Inside.{ListsInside, entry_if}
use Rattle.radix_tree.specs.Preorder.{entries_at, preorder, entries_below, to_come, IsStacked, IsPending, heft, weight}
use Rattle.radix_tree.specs.Sound.{IsSound}
use Rattle.radix_tree.proofs.Descent.{rank_child}
use Rattle.radix_tree.proofs.Mending.{child_node}
use Rattle.radix_tree.proofs.Within.{inside_clear, inside_single, inside_node}

-- ---- ranks

rank_is : (pool : Pooled Node) (id : ℕ) (n : Node) → node_at pool id ≡ Some n → rank pool (Some id) ≡ width_of n.block.family + 1 - n.block.len
rank_is pool id n e = ap rank_of e

-- a child stands further down, and so does no child
pub child_rank : (t : Linked) → IsTree t → (id : ℕ) (n : Node) (s : Bool) → node_at t.pool id ≡ Some n → rank t.pool (child s n) + 1 ≤ rank t.pool (Some id)
child_rank t w id n s e = elim (cases_lt n.block.len (width_of n.block.family)) [
  | inl room ↦ rank_child t w id n s e room
  | inr full ↦
      let none = (w.each id n e).shut (λ room. omega arith) s in
      let short = (w.each id n e).lawful.short in
      let zero_rank : rank t.pool (child s n) ≡ 0 = ap (rank t.pool) none in
      let own = rank_is t.pool id n e in
      omega (arith, zero_rank, own, short)
]

pub child_live : (t : Linked) → IsTree t → (id : ℕ) (n : Node) (s : Bool) → node_at t.pool id ≡ Some n → (c : ℕ) → child s n ≡ Some c → IsLive t.pool c
child_live t w id n s e c is = (let k = child_node t w id n s c e is in subst IsSome (sym k.1) refl)

-- ---- the entries below a link

none_below : (d : ℕ) (pool : Pooled Node) → preorder d pool None ≡ []
unfolding preorder
none_below zero pool = refl
none_below (suc d) pool = refl

pub some_below : (d : ℕ) (pool : Pooled Node) (id : ℕ) (n : Node) → node_at pool id ≡ Some n → preorder (suc d) pool (Some id) ≡ entry_if n.count n.block ++ (preorder d pool n.low ++ preorder d pool n.high)
unfolding preorder
some_below d pool id n e = ap (entries_at (preorder d pool)) e

-- one node more makes no difference where there are enough
enough : (t : Linked) → IsTree t → (d : ℕ) (at : Option ℕ) → rank t.pool at ≤ d → ((id : ℕ) → at ≡ Some id → IsLive t.pool id) → preorder d t.pool at ≡ preorder (suc d) t.pool at
enough t w d None le live = none_below d t.pool ∙ sym (none_below (suc d) t.pool)
enough t w zero (Some id) le live = go (node_at t.pool id) refl (live id refl) where
  go : (x : Option Node) → node_at t.pool id ≡ x → IsSome x → preorder zero t.pool (Some id) ≡ preorder 1 t.pool (Some id)
  go None e some = (let f : false ≡ true = some in let g : ⊥ = cc in absurd g)
  go (Some n) e some = (let own = rank_is t.pool id n e in let short = (w.each id n e).lawful.short in absurd (omega arith))
enough t w (suc d) (Some id) le live = go (node_at t.pool id) refl (live id refl) (λ at. enough t w d at) where
  go : (x : Option Node) → node_at t.pool id ≡ x → IsSome x → ((at : Option ℕ) → rank t.pool at ≤ d → ((c : ℕ) → at ≡ Some c → IsLive t.pool c) → preorder d t.pool at ≡ preorder (suc d) t.pool at)
      → preorder (suc d) t.pool (Some id) ≡ preorder (suc (suc d)) t.pool (Some id)
  go None e some below = (let f : false ≡ true = some in let g : ⊥ = cc in absurd g)
  go (Some n) e some below =
      let low = below n.low (let r = child_rank t w id n false e in omega arith) (child_live t w id n false e) in
      let high = below n.high (let r = child_rank t w id n true e in omega arith) (child_live t w id n true e) in
      some_below d t.pool id n e
      ∙ ap (λ (xs : List Entry). entry_if n.count n.block ++ (xs ++ preorder d t.pool n.high)) low
      ∙ ap (λ (xs : List Entry). entry_if n.count n.block ++ (preorder (suc d) t.pool n.low ++ xs)) high
      ∙ sym (some_below (suc d) t.pool id n e)

-- they are the blocks inside the land
pub below_lists : (t : Linked) → IsSound t → (d : ℕ) (at : Option ℕ) (land : Cidr) → IsLink t.pool at land → rank t.pool at ≤ d → ListsInside (blocks_of t.pool) land (preorder d t.pool at)
below_lists t w d None land link le = subst (ListsInside (blocks_of t.pool) land) (sym (none_below d t.pool)) (inside_clear t land link)
below_lists t w zero (Some id) land link le =
    let top = link.top id refl in
    let own = rank_is t.pool id top.0 top.1 in
    let short = (w.tree.each id top.0 top.1).lawful.short in
    absurd (omega arith)
below_lists t w (suc d) (Some id) land link le =
    let top = link.top id refl in
    let n = top.0 in
    let e = top.1 in
    let own = w.tree.each id n e in
    subst (ListsInside (blocks_of t.pool) land) (sym (some_below d t.pool id n e)) (elim (cases_lt n.block.len (width_of n.block.family)) [
      | inl room ↦
          let low = below_lists t w d n.low (half false n.block) (w.tree.links (Under id false) n.low (half false n.block) (n, e, room, refl, refl)) (let r = child_rank t w.tree id n false e in omega arith) in
          let high = below_lists t w d n.high (half true n.block) (w.tree.links (Under id true) n.high (half true n.block) (n, e, room, refl, refl)) (let r = child_rank t w.tree id n true e in omega arith) in
          inside_node t w land id n link e room (preorder d t.pool n.low) (preorder d t.pool n.high) low high
      | inr full ↦
          let short = own.lawful.short in
          let low = ap (preorder d t.pool) (own.shut (λ room. omega arith) false) ∙ none_below d t.pool in
          let high = ap (preorder d t.pool) (own.shut (λ room. omega arith) true) ∙ none_below d t.pool in
          let single = inside_single t w land id n link e (omega arith) in
          subst (λ (xs : List Entry). ListsInside (blocks_of t.pool) land (entry_if n.count n.block ++ (xs ++ preorder d t.pool n.high))) (sym low)
          (subst (λ (xs : List Entry). ListsInside (blocks_of t.pool) land (entry_if n.count n.block ++ xs)) (sym high)
          (subst (ListsInside (blocks_of t.pool) land) (sym (append-nil (entry_if n.count n.block))) single))
    ])

-- a link's node can stand above 128 others
link_rank : (t : Linked) → IsTree t → (at : Option ℕ) (land : Cidr) → IsLink t.pool at land → rank t.pool at ≤ 129
link_rank t w None land link = omega arith
link_rank t w (Some id) land link = (let top = link.top id refl in let own = rank_is t.pool id top.0 top.1 in let small = width_small top.0.block.family in omega (arith, own, small))

-- the blocks inside a land, by the link for it
pub link_lists : (t : Linked) → IsSound t → (at : Option ℕ) (land : Cidr) → IsLink t.pool at land → ListsInside (blocks_of t.pool) land (entries_below t.pool at)
link_lists t w at land link = below_lists t w 129 at land link (link_rank t w.tree at land link)

-- ---- the stack

to_come_snoc : (pool : Pooled Node) (xs : List (Option ℕ)) (x : Option ℕ) → to_come pool (xs ++ x ∷ []) ≡ entries_below pool x ++ to_come pool xs
to_come_snoc pool [] x = sym (append-nil (entries_below pool x))
to_come_snoc pool (y ∷ ys) x = ap (λ (zs : List Entry). zs ++ entries_below pool y) (to_come_snoc pool ys x) ∙ append_assoc (entries_below pool x) (to_come pool ys) (entries_below pool y)

stacked_snoc : (pool : Pooled Node) (most : ℕ) (xs : List (Option ℕ)) (x : Option ℕ) → IsStacked pool most xs → rank pool x ≤ most - length xs → ((id : ℕ) → x ≡ Some id → IsLive pool id) → IsStacked pool most (xs ++ x ∷ [])
stacked_snoc pool most [] x h le live = (omega (arith, le), live, tt)
stacked_snoc pool most (y ∷ ys) x h le live = (h.0, h.1, stacked_snoc pool (most - 1) ys x h.2 (omega arith) live)

pub stacked_split : (pool : Pooled Node) (most : ℕ) (xs : List (Option ℕ)) (x : Option ℕ) → IsStacked pool most (xs ++ x ∷ []) → IsStacked pool most xs × (rank pool x ≤ most - length xs) × ((id : ℕ) → x ≡ Some id → IsLive pool id)
stacked_split pool most [] x h = (tt, omega (arith, h.0), h.1)
stacked_split pool most (y ∷ ys) x h = (let r = stacked_split pool (most - 1) ys x h.2 in ((h.0, h.1, r.0), omega (arith, r.1), r.2))

weight_snoc : (pool : Pooled Node) (xs : List (Option ℕ)) (x : Option ℕ) → weight pool (xs ++ x ∷ []) ≡ weight pool xs + heft (rank pool x)
weight_snoc pool [] x = omega arith
weight_snoc pool (y ∷ ys) x = (let rest = weight_snoc pool ys x in omega arith)

length_snoc : (xs : List (Option ℕ)) (x : Option ℕ) → length (xs ++ x ∷ []) ≡ length xs + 1
length_snoc [] x = refl
length_snoc (y ∷ ys) x = (let rest = length_snoc ys x in omega arith)

heft_some : (r : ℕ) → 1 ≤ heft r
heft_some zero = omega arith
heft_some (suc r) = (let more = heft_some r in omega arith)

heft_more : (a b : ℕ) → a ≤ b → heft a ≤ heft b
heft_more a zero le = (let is : a ≡ 0 = omega arith in let same = ap heft is in omega arith)
heft_more a (suc b) le = elim (cases_lt b a) [
  | inl more ↦ (let is : a ≡ suc b = omega arith in let same = ap heft is in omega arith)
  | inr less ↦ (let rest = heft_more a b less in let some = heft_some b in omega arith)
]

heft_three : (a b : ℕ) → a + 1 ≤ b → 3 * heft a ≤ heft b
heft_three a zero le = absurd (omega arith)
heft_three a (suc b) le = (let rest = heft_more a b (omega arith) in omega arith)

-- a link that leads nowhere was taken off
pub pending_none : (t : Linked) (all xs : List (Option ℕ)) (x : Option ℕ) → all ≡ xs ++ x ∷ [] → x ≡ None → IsPending t all → IsPending t xs × (to_come t.pool all ≡ to_come t.pool xs) × (weight t.pool xs < weight t.pool all)
pending_none t all xs x is none h =
    let stacked = subst (IsStacked t.pool 129) is h.stacked in
    let heavy : weight t.pool all ≡ weight t.pool xs + heft (rank t.pool x) = ap (weight t.pool) is ∙ weight_snoc t.pool xs x in
    let some = heft_some (rank t.pool x) in (
      record { sound = h.sound; stacked = (stacked_split t.pool 129 xs x stacked).0 },
      ap (to_come t.pool) is ∙ to_come_snoc t.pool xs x ∙ ap (λ (y : Option ℕ). entries_below t.pool y ++ to_come t.pool xs) none ∙ ap (λ (ys : List Entry). ys ++ to_come t.pool xs) (none_below 129 t.pool),
      omega (arith, heavy, some),
    )

pub top_live : (t : Linked) (all xs : List (Option ℕ)) (x : Option ℕ) (id : ℕ) → all ≡ xs ++ x ∷ [] → x ≡ Some id → IsPending t all → IsLive t.pool id
top_live t all xs x id is some h = (stacked_split t.pool 129 xs x (subst (IsStacked t.pool 129) is h.stacked)).2 id some

module _ (t : Linked) (all xs : List (Option ℕ)) (x : Option ℕ) (id : ℕ) (n : Node) (is : all ≡ xs ++ x ∷ []) (some : x ≡ Some id) (e : node_at t.pool id ≡ Some n) (h : IsPending t all) where
  split : IsStacked t.pool 129 xs × (rank t.pool x ≤ 129 - length xs) × ((j : ℕ) → x ≡ Some j → IsLive t.pool j)
  split = stacked_split t.pool 129 xs x (subst (IsStacked t.pool 129) is h.stacked)

  top_rank : rank t.pool (Some id) ≤ 129 - length xs
  top_rank = subst (λ (y : Option ℕ). rank t.pool y ≤ 129 - length xs) some split.1

  -- there is room for its two links
  pub room_for_two : length xs ≤ 128
  room_for_two = (let own = rank_is t.pool id n e in let short = (h.sound.tree.each id n e).lawful.short in omega (arith, top_rank, own, short))

  module _ (first second : List (Option ℕ)) (first_is : first ≡ xs ++ n.high ∷ []) (second_is : second ≡ first ++ n.low ∷ []) where
    pub pending_two : IsPending t second
    pending_two =
        let high = child_rank t h.sound.tree id n true e in
        let low = child_rank t h.sound.tree id n false e in
        let one = stacked_snoc t.pool 129 xs n.high split.0 (omega (arith, high, top_rank)) (child_live t h.sound.tree id n true e) in
        let stacked = subst (IsStacked t.pool 129) (sym first_is) one in
        let long : length first ≡ length xs + 1 = ap (λ (ys : List (Option ℕ)). length ys) first_is ∙ length_snoc xs n.high in
        let two = stacked_snoc t.pool 129 first n.low stacked (omega (arith, low, top_rank, long)) (child_live t h.sound.tree id n false e) in
        record { sound = h.sound; stacked = subst (IsStacked t.pool 129) (sym second_is) two }

    pub to_come_two : to_come t.pool all ≡ entry_if n.count n.block ++ to_come t.pool second
    to_come_two =
        let w = h.sound.tree in
        let small = width_small n.block.family in
        let own = rank_is t.pool id n e in
        let high_rank = child_rank t w id n true e in
        let low_rank = child_rank t w id n false e in
        let high = enough t w 128 n.high (omega (arith, small, own, high_rank)) (child_live t w id n true e) in
        let low = enough t w 128 n.low (omega (arith, small, own, low_rank)) (child_live t w id n false e) in
        let here : entries_below t.pool x ≡ entry_if n.count n.block ++ (entries_below t.pool n.low ++ entries_below t.pool n.high) =
        ap (entries_below t.pool) some ∙ some_below 128 t.pool id n e
        ∙ ap (λ (ys : List Entry). entry_if n.count n.block ++ (ys ++ preorder 128 t.pool n.high)) low
        ∙ ap (λ (ys : List Entry). entry_if n.count n.block ++ (entries_below t.pool n.low ++ ys)) high in
        let after : to_come t.pool second ≡ entries_below t.pool n.low ++ (entries_below t.pool n.high ++ to_come t.pool xs) =
        ap (to_come t.pool) second_is ∙ to_come_snoc t.pool first n.low ∙ ap (λ (ys : List Entry). entries_below t.pool n.low ++ ys) (ap (to_come t.pool) first_is ∙ to_come_snoc t.pool xs n.high) in
        ap (to_come t.pool) is ∙ to_come_snoc t.pool xs x
        ∙ ap (λ (ys : List Entry). ys ++ to_come t.pool xs) here
        ∙ append_assoc (entry_if n.count n.block) (entries_below t.pool n.low ++ entries_below t.pool n.high) (to_come t.pool xs)
        ∙ ap (λ (ys : List Entry). entry_if n.count n.block ++ ys) (append_assoc (entries_below t.pool n.low) (entries_below t.pool n.high) (to_come t.pool xs))
        ∙ sym (ap (λ (ys : List Entry). entry_if n.count n.block ++ ys) after)

    pub weight_two : weight t.pool second < weight t.pool all
    weight_two =
        let before : weight t.pool all ≡ weight t.pool xs + heft (rank t.pool x) = ap (weight t.pool) is ∙ weight_snoc t.pool xs x in
        let same : heft (rank t.pool x) ≡ heft (rank t.pool (Some id)) = ap (λ (y : Option ℕ). heft (rank t.pool y)) some in
        let one : weight t.pool first ≡ weight t.pool xs + heft (rank t.pool n.high) = ap (weight t.pool) first_is ∙ weight_snoc t.pool xs n.high in
        let two : weight t.pool second ≡ weight t.pool first + heft (rank t.pool n.low) = ap (weight t.pool) second_is ∙ weight_snoc t.pool first n.low in
        let high = heft_three (rank t.pool n.high) (rank t.pool (Some id)) (child_rank t h.sound.tree id n true e) in
        let low = heft_three (rank t.pool n.low) (rank t.pool (Some id)) (child_rank t h.sound.tree id n false e) in
        let some_weight = heft_some (rank t.pool (Some id)) in
        omega (arith, before, same, one, two, high, low, some_weight)

pub entry_some : (count : ℕ) (b : Cidr) → 0 < count → entry_if count b ≡ record { block = b; times = count } ∷ []
entry_some zero b some = absurd (omega arith)
entry_some (suc n) b some = refl

pub entry_none : (count : ℕ) (b : Cidr) → count ≡ 0 → entry_if count b ≡ []
entry_none zero b none = refl
entry_none (suc n) b none = absurd (omega arith)
