-- Aggregates that share addresses: of two blocks that do, one lies strictly inside the other, or they are one.
use Rattle.std.proofs.Common.{◌≡◌, ℕ, ◌+◌, ◌-◌, ◌≤◌, ◌<◌, ◌==◌, ◌&&◌, ◌||◌, nat_lt, nat_le, Bool, true, false, not, cond, List, [], ◌∷◌, length, Contains, IsPermutation, Option, Some, None, find, map, filter, MatchBool, IsSome, refl, ap, subst, sym, ◌∙◌, arith, inl, inr, ◌⊎◌, option_map}
use Rattle.std.proofs.lemmas.Bool.{cases_lt}
use Rattle.std.proofs.lemmas.Bool.Decides.{nat_tests}
use Rattle.std.proofs.lemmas.Nat.{pow_pos}
use Rattle.std.proofs.lemmas.List.Sorted.{Contains-permutation, IsPermutation-refl}
use Rattle.std.specs.List.{list_any, count_by, AllByRecursion}
use Rattle.inet_num.specs.declared.Family.{Family}
use Rattle.inet_num.specs.declared.Family.TheVariants.{V4, V6}
use Rattle.inet_num.specs.Net.{Cidr, IsBlock, size_of, width_of, last_of}
use Rattle.inet_num.specs.Blocks.{same_family, same_block, is_block_inside, is_strictly_inside, distinct}
use Rattle.block_space.specs.Listed.{AreBlocksOf, IsBlockOf, around_of, counting_of}
use Rattle.inet_num.proofs.Insides.{both, one_family, same_block-refl}
use Rattle.inet_num.proofs.Numbers.{inside_by_ends}
use Rattle.inet_num.proofs.Nested.{same_by_len}
use Rattle.ipam_data.specs.declared.aggregate.Aggregate.{Aggregate}
use Rattle.ipam_data.specs.declared.kinds.Table.TheVariants.{Global}
use Rattle.ipam_data.specs.RowList.{least, least_rival, is_rival}
use Rattle.ipam_data.specs.Rows.{aggregate_id}
use Rattle.ipam_data.specs.Aggregates.{overlaps}
use Rattle.ipam_data.proofs.Kept.{none_from_map}
use Rattle.ipam_data.proofs.RowLists.{contains_head, contains_rest, contains_cases, find_none}
use Rattle.placed_book.specs.Book.{Placed, blocks_of_rows, is_of}
use Rattle.placed_book.proofs.Orders.{is_block}
use Rattle.placed_book.proofs.Searches.{none_counted}
use Rattle.placed_book.proofs.Around.{around_any_order}
use Rattle.placed_book.proofs.Inside.{inside_any_order}
use Rattle.placed_book.specs.Kinds.{placed_aggregate}
use Rattle.placed_book.specs.Rivals.{is_rival as is_placed_rival}

-- ---- two blocks

-- by the test of the ends, a block inside another is smaller, or is it
strict_or_one : (a b : Cidr) → IsBlock a → IsBlock b → is_block_inside a b ≡ true → (is_strictly_inside a b ≡ true) ⊎ (same_block a b ≡ true)
strict_or_one a b la lb t =
    let families = same_family a.family b.family in
    let begins = nat_le b.first a.first in
    let ends = nat_le (last_of a).value (last_of b).value in
    let h = both (families && begins) ends t in
    let k = both families begins h.0 in
    let family = one_family a.family b.family k.0 in
    elim (cases_lt b.len a.len) [
      | inl less ↦ (let longer : nat_lt b.len a.len ≡ true = grind (arith, nat_tests) in inl (rw (k.0, longer, k.1, h.1) refl))
      | inr short ↦
          let low : b.first ≤ a.first = (let e = k.1 in grind (arith, nat_tests)) in
          let last : a.first + size_of a - 1 ≤ b.first + size_of b - 1 = (let e = h.1 in grind (arith, nat_tests)) in
          let some : 0 < size_of a = pow_pos (width_of a.family - a.len) in
          let some_b : 0 < size_of b = pow_pos (width_of b.family - b.len) in
          let inside = inside_by_ends a b family low (omega arith) in
          inr (ap (λ (x : Cidr). same_block a x) (sym (same_by_len a b inside short la.short lb.short)) ∙ same_block-refl a)
    ]

turned : (a b : Cidr) → same_block a b ≡ true → same_block b a ≡ true
turned a b e = subst (λ (x : Cidr). same_block x a ≡ true) (is_block a b e) (same_block-refl a)

-- two blocks are apart that lie in neither way strictly in one another, and are not one
apart : (a b : Cidr) → IsBlock a → IsBlock b → is_strictly_inside a b ≡ false → is_strictly_inside b a ≡ false → same_block b a ≡ false → (is_block_inside a b || is_block_inside b a) ≡ false
apart a b la lb inner outer other = go (is_block_inside a b) (is_block_inside b a) refl refl where
  go : (s t : Bool) → is_block_inside a b ≡ s → is_block_inside b a ≡ t → (s || t) ≡ false
  go false false e f = refl
  go true t e f = elim (strict_or_one a b la lb e) [
    | inl strict ↦ (let wrong : true ≡ false = sym strict ∙ inner in cc)
    | inr one ↦ (let wrong : true ≡ false = sym (turned a b one) ∙ other in cc)
  ]
  go false true e f = elim (strict_or_one b a lb la f) [
    | inl strict ↦ (let wrong : true ≡ false = sym strict ∙ outer in cc)
    | inr one ↦ (let wrong : true ≡ false = sym one ∙ other in cc)
  ]

-- blocks of two families have no address in common
strangers : (a b : Cidr) → same_family b.family a.family ≡ false → (is_block_inside a b || is_block_inside b a) ≡ false
strangers a b e = go a.family b.family e (nat_le b.first a.first) (nat_le (last_of a).value (last_of b).value) (nat_le a.first b.first) (nat_le (last_of b).value (last_of a).value) where
  go : (f g : Family) → same_family g f ≡ false → (s t u v : Bool) → ((same_family f g && s && t) || (same_family g f && u && v)) ≡ false
  go V4 V4 h s t u v = cc
  go V4 V6 h s t u v = refl
  go V6 V4 h s t u v = refl
  go V6 V6 h s t u v = cc

-- ---- what a list has

contains_mapped : {X Y : Type 0} (f : X → Y) (xs : List X) (x : X) → Contains xs x → Contains (map f xs) (f x)
contains_mapped f [] x c = let h = c.1 in absurd (omega arith)
contains_mapped {X} {Y} f (z ∷ zs) x c = elim (contains_cases z x zs c) [
  | inl is ↦ subst (λ (w : X). Contains (f z ∷ map f zs) (f w)) is (contains_head (f z) (map f zs))
  | inr later ↦ contains_rest (f z) (f x) (map f zs) (contains_mapped f zs x later)
]

contains_kept : {X : Type 0} (p : X → Bool) (xs : List X) (x : X) → Contains xs x → p x ≡ true → Contains (filter p xs) x
contains_kept p [] x c t = let h = c.1 in absurd (omega arith)
contains_kept {X} p (z ∷ zs) x c t = go (p z) refl (elim (contains_cases z x zs c) [ inl is ↦ inl is | inr later ↦ inr (contains_kept p zs x later t) ]) where
  go : (b : Bool) → p z ≡ b → (z ≡ x) ⊎ Contains (filter p zs) x → Contains (cond b (z ∷ filter p zs) (filter p zs)) x
  go true e (inl is) = subst (λ (w : X). Contains (z ∷ filter p zs) w) is (contains_head z (filter p zs))
  go true e (inr later) = contains_rest z x (filter p zs) later
  go false e (inl is) = (let wrong : false ≡ true = sym e ∙ ap p is ∙ t in cc)
  go false e (inr later) = later

not_found : {X : Type 0} (p : X → Bool) (xs : List X) → ((x : X) → Contains xs x → p x ≡ false) → find p xs ≡ None
not_found p [] h = refl
not_found p (x ∷ xs) h = rw (h x (contains_head x xs)) (not_found p xs (λ y c. h y (contains_rest x y xs c)))

each_of : {X : Type 0} (P : X → Type 0) (xs : List X) (x : X) → AllByRecursion P xs → Contains xs x → P x
each_of P [] x h c = let less = c.1 in absurd (omega arith)
each_of P (y ∷ ys) x h c = elim (contains_cases y x ys c) [ inl is ↦ subst P is h.0 | inr later ↦ each_of P ys x h.1 later ]

-- a list without different blocks is empty
no_distinct : (bs : List Cidr) → distinct bs ≡ 0 → bs ≡ []
no_distinct [] e = refl
no_distinct (b ∷ bs) e = go (list_any (same_block b) bs) refl e (no_distinct bs) where
  go : (t : Bool) → list_any (same_block b) bs ≡ t → cond t (distinct bs) (distinct bs + 1) ≡ 0 → (distinct bs ≡ 0 → bs ≡ []) → b ∷ bs ≡ []
  go true t e ih = (let wrong : false ≡ true = sym (ap (λ (xs : List Cidr). list_any (same_block b) xs) (ih e)) ∙ t in cc)
  go false t e ih = absurd (omega arith)

not_kept : {X : Type 0} (p : X → Bool) (xs : List X) (x : X) → filter p xs ≡ [] → Contains xs x → p x ≡ false
not_kept {X} p xs x e c = go (p x) refl where
  go : (t : Bool) → p x ≡ t → p x ≡ false
  go false h = h
  go true h = (let k = subst (λ (ys : List X). Contains ys x) e (contains_kept p xs x c h) in let less = k.1 in absurd (omega arith))

-- what a space says where it counts nothing
pub are_beside : (family : Family) (block : Cidr) (held : List Cidr) (around inside : ℕ) → IsBlock block → block.family ≡ family → AreBlocksOf family held → around ≡ around_of held block → inside ≡ length (counting_of held block true)
    → around ≡ 0 → inside ≡ 0 → (b : Cidr) → Contains held b → IsBlock b × (is_strictly_inside b block ≡ false) × (is_strictly_inside block b ≡ false)
are_beside family block held around inside lawful own blocks e f none_around none_inside b c =
    let same = IsPermutation-refl held in
    let outer = no_distinct (filter (λ (x : Cidr). is_strictly_inside block x) held) (sym (around_any_order family block held held lawful own blocks same) ∙ sym e ∙ none_around) in
    let inner = none_counted (λ (x : Cidr). is_strictly_inside x block) held (sym (inside_any_order family block held held lawful own blocks same) ∙ sym f ∙ none_inside) in (
      (each_of (IsBlockOf family) held b blocks c).lawful,
      find_none (λ (x : Cidr). is_strictly_inside x block) held b inner c,
      not_kept (λ (x : Cidr). is_strictly_inside block x) held b outer c,
    )

-- ---- the rows of a book

-- a row whose block stands alone in the book, by the book's answer
pub alone : (rows : List Aggregate) (row : Aggregate) (b : Bool) → b ≡ true
    → MatchBool b (least aggregate_id (is_placed_rival aggregate_id placed_aggregate row) rows ≡ None) (IsSome (least aggregate_id (is_placed_rival aggregate_id placed_aggregate row) rows)) → least aggregate_id (is_placed_rival aggregate_id placed_aggregate row) rows ≡ None
alone rows row true e h = h
alone rows row false e h = cc

pub turned_down : (b : Bool) → not b ≡ true → b ≡ false
turned_down true e = cc
turned_down false e = refl

-- what a space says of the blocks that it has, beside one block
abbrev pub AreBeside : Cidr → List Cidr → Type 0
AreBeside block held = (b : Cidr) → Contains held b → IsBlock b × (is_strictly_inside b block ≡ false) × (is_strictly_inside block b ≡ false)

module _ (rows : List Aggregate) (row : Aggregate) (held : List Cidr) (lawful : IsBlock row.block) (are : IsPermutation (blocks_of_rows (map placed_aggregate rows) Global row.block.family) held) (beside : AreBeside row.block held)
    (alone : least aggregate_id (is_placed_rival aggregate_id placed_aggregate row) rows ≡ None) where
  there : (x : Aggregate) → Contains rows x → same_family x.block.family row.block.family ≡ true → Contains held x.block
  there x c f =
      let placed = contains_mapped placed_aggregate rows x c in
      let kept = contains_kept (is_of Global row.block.family) (map placed_aggregate rows) (placed_aggregate x) placed f in
      let block = contains_mapped (λ (p : Placed). p.block) (filter (is_of Global row.block.family) (map placed_aggregate rows)) (placed_aggregate x) kept in
      Contains-permutation (blocks_of_rows (map placed_aggregate rows) Global row.block.family) held x.block are block

  -- another row has another block
  other_block : (x : Aggregate) → Contains rows x → (x.id == row.id) ≡ false → same_block x.block row.block ≡ false
  other_block x c e =
      let none = find_none (is_placed_rival aggregate_id placed_aggregate row) rows x (none_from_map aggregate_id (find (is_placed_rival aggregate_id placed_aggregate row) rows) alone) c in
      sym (ap (λ (t : Bool). not t && true && same_block x.block row.block) e) ∙ none

  no_rival : (x : Aggregate) → Contains rows x → is_rival aggregate_id overlaps row x ≡ false
  no_rival x c = go (x.id == row.id) refl (same_family x.block.family row.block.family) refl where
    go : (t : Bool) → (x.id == row.id) ≡ t → (f : Bool) → same_family x.block.family row.block.family ≡ f → (not t && overlaps row x) ≡ false
    go true e f g = refl
    go false e false g = strangers row.block x.block g
    go false e true g =
        let facts = beside x.block (there x c g) in
        apart row.block x.block lawful facts.0 facts.2 facts.1 (other_block x c e)

  pub none_overlaps : least_rival aggregate_id overlaps rows row ≡ None
  none_overlaps = ap (λ (o : Option Aggregate). option_map aggregate_id o) (not_found (is_rival aggregate_id overlaps row) rows no_rival)
