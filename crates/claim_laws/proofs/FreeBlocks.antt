-- The blocks that the register's search finds for claims of blocks are the least free blocks.
use Rattle.std.proofs.Common.{◌++◌, ◌+◌, ◌<◌, ◌||◌, ◌∙◌, ◌∷◌, ◌≡◌, ◌≤◌, ◌⊎◌, Contains, List, None, Option, Some, [], ap, append-nil, arith, false, filter, inl, inr, length, nat_le, nat_lt, refl, subst, suc, sym, take, true, zero, ℕ}
use Rattle.std.proofs.lemmas.Bool.Decides.{nat_tests}
use Rattle.std.proofs.lemmas.List.{append_assoc}
use Rattle.std.proofs.lemmas.List.Elements.{Contains-append_cases, Contains-append_left, Contains-append_right}
use Rattle.std.specs.List.{AllByRecursion, slice_get}
use Rattle.inet_num.proofs.Insides.{both, inside_is_by_ends}
use Rattle.inet_num.proofs.Numbers.{ends_of_inside, strictly_by_len}
use Rattle.inet_num.specs.Blocks.{is_strictly_inside}
use Rattle.inet_num.specs.Free.{has_address, is_taken}
use Rattle.inet_num.specs.Net.{Cidr, HasAddress, IsBlock, IsStrictlyInside, size_of, width_of}
use Rattle.block_space.proofs.FirstFits.{found as find_first, found_only as find_only, fits_none, fits_some}
use Rattle.block_space.specs.Fit.{Fits, IsFirstFit, first_fit_of, fits_of}
use Rattle.ipam_data.specs.Claims.{child_blocks, is_child_prefix, lengths_of, sees_all}
use Rattle.ipam_data.specs.Prefixes.{in_one_table}
use Rattle.ipam_data.specs.State.{State}
use Rattle.ipam_data.specs.declared.calls.BlockItem.{BlockItem}
use Rattle.ipam_data.specs.declared.prefix.Prefix.{Prefix}
use Rattle.ipam_data.proofs.Kept.{contains_map}
use Rattle.ipam_data.proofs.RowLists.{contains_cases}
use Rattle.claim_laws.specs.Claims.{IsLeastBlock}
use Rattle.claim_laws.specs.Free.{Counts, IsFreeBlock}
use Rattle.claim_laws.proofs.FreeAddresses.{counted, table_counts}
use Rattle.claim_laws.proofs.Lists.{any_false, filter_has, filtered, mapped_has, none_of_any, not_both}

-- ---- what is taken

-- a list takes a number if a block of it has it
untaken : (bs : List Cidr) (n : ℕ) → ((c : Cidr) → Contains bs c → ¬ HasAddress c n) → is_taken bs n ≡ false
untaken bs n h = any_false (λ c. has_address c n) bs (λ c k t.
    let e = both (nat_le c.first n) (nat_lt n (c.first + size_of c)) t in
    let low : c.first ≤ n = (let a = e.0 in grind (arith, nat_tests)) in
    let high : n < c.first + size_of c = (let a = e.1 in grind (arith, nat_tests)) in
    h c k (low, high))

not_taken : (bs : List Cidr) (c : Cidr) (n : ℕ) → is_taken bs n ≡ false → Contains bs c → ¬ HasAddress c n
not_taken bs c n f k h =
    let low = h.0 in
    let high = h.1 in
    let t : has_address c n ≡ true = grind (arith, nat_tests) in
    not_both (has_address c n) t (none_of_any (λ d. has_address d n) bs c f k)

-- ---- the blocks that count

-- all prefixes have blocks
abbrev pub AreBlocks : State → Type 0
AreBlocks s = (q : Prefix) → Contains s.prefixes.rows q → IsBlock q.block

module _ (s : State) (p : Prefix) (hp : IsBlock p.block) (all : AreBlocks s) where
  -- a prefix that counts and lies strictly inside
  pub record IsChild (c : Cidr) : Type 0 where
    pub prefix : Prefix
    pub there : Contains s.prefixes.rows prefix
    pub counts : Counts p prefix.vrf
    pub inside : IsStrictlyInside prefix.block p.block
    pub is : prefix.block ≡ c

  pub child_from : (c : Cidr) → Contains (child_blocks s.prefixes.rows p) c → IsChild c
  child_from c k =
      let m = contains_map (λ (r : Prefix). r.block) (filter (is_child_prefix p) s.prefixes.rows) c k in
      let f = filtered (is_child_prefix p) s.prefixes.rows m.0 m.1 in
      let t = both (sees_all p || in_one_table p m.0) (is_strictly_inside m.0.block p.block) f.1 in
      record {
        prefix = m.0;
        there = f.0;
        counts = counted p m.0.vrf t.0;
        inside = (inside_is_by_ends m.0.block p.block (all m.0 f.0) hp).0 t.1;
        is = m.2;
      }

  pub child_there : (q : Prefix) → Contains s.prefixes.rows q → Counts p q.vrf → IsStrictlyInside q.block p.block → Contains (child_blocks s.prefixes.rows p) q.block
  child_there q c counts inside =
      let t : is_child_prefix p q ≡ true = rw (table_counts p q.vrf counts, (inside_is_by_ends q.block p.block (all q c) hp).1 inside) refl in
      mapped_has (λ (r : Prefix). r.block) (filter (is_child_prefix p) s.prefixes.rows) q (filter_has (is_child_prefix p) s.prefixes.rows q c t)

  -- what earlier items got has the prefix's family
  abbrev pub AreAlike : List Cidr → Type 0
  AreAlike earlier = (c : Cidr) → Contains earlier c → c.family ≡ p.block.family

  abbrev pub taken : List Cidr → List Cidr
  taken earlier = child_blocks s.prefixes.rows p ++ earlier

  pub fits_free : (earlier : List Cidr) (len : ℕ) (b : Cidr) → p.block.len < len → Fits p.block (taken earlier) len p.block.first b → IsFreeBlock s p earlier len b
  fits_free earlier len b longer h =
      let is = h.len_is in
      record {
        block = h.lawful;
        length = h.len_is;
        inside = strictly_by_len b p.block (omega arith) h.inside;
        unused = λ q c counts inside a i j. not_taken (taken earlier) q.block a.value (h.free a.value i.1) (Contains-append_left (child_blocks s.prefixes.rows p) earlier q.block (child_there q c counts inside)) j.1;
        apart = λ c k a i j. not_taken (taken earlier) c a.value (h.free a.value i.1) (Contains-append_right (child_blocks s.prefixes.rows p) earlier c k) j.1;
      }

  pub free_fits : (earlier : List Cidr) (len : ℕ) (b : Cidr) → AreAlike earlier → IsFreeBlock s p earlier len b → Fits p.block (taken earlier) len p.block.first b
  free_fits earlier len b alike h =
      let family : b.family ≡ p.block.family = h.inside.inside.family in
      let ends = ends_of_inside b p.block h.inside.inside in
      record {
        lawful = h.block;
        len_is = h.length;
        inside = h.inside.inside;
        free = λ n i. untaken (taken earlier) n (λ c k j. elim (Contains-append_cases (child_blocks s.prefixes.rows p) earlier c k) [
          | inl k ↦ (
              let g = child_from c k in
              let same : b.family ≡ g.prefix.block.family = family ∙ sym g.inside.inside.family in
              let has : HasAddress g.prefix.block n = subst (λ (d : Cidr). HasAddress d n) (sym g.is) j in
              h.unused g.prefix g.there g.counts g.inside (record { family = b.family; value = n }) (refl, i) (same, has))
          | inr k ↦ h.apart c k (record { family = b.family; value = n }) (refl, i) (family ∙ sym (alike c k), j)
        ]);
        from_on = ends.0;
      }

  -- the first fit is the least free block
  pub first_least : (earlier : List Cidr) (len : ℕ) (b : Cidr) → p.block.len < len → AreAlike earlier → IsFirstFit p.block (taken earlier) len p.block.first (Some b) → IsLeastBlock s p earlier len b
  first_least earlier len b longer alike h = record { free = fits_free earlier len b longer h.0; least = λ c f. h.1 c (free_fits earlier len c alike f) }

  pub least_first : (earlier : List Cidr) (len : ℕ) (b : Cidr) → p.block.len < len → AreAlike earlier → IsLeastBlock s p earlier len b → IsFirstFit p.block (taken earlier) len p.block.first (Some b)
  least_first earlier len b longer alike h = (free_fits earlier len b alike h.free, λ c f. h.least c (fits_free earlier len c longer f))

  alike_more : (earlier : List Cidr) (b : Cidr) → AreAlike earlier → b.family ≡ p.block.family → AreAlike (earlier ++ b ∷ [])
  alike_more earlier b alike e c k = elim (Contains-append_cases earlier (b ∷ []) c k) [
    | inl k ↦ alike c k
    | inr k ↦ elim (contains_cases b c [] k) [ inl q ↦ (ap (λ (d : Cidr). d.family) (sym q) ∙ e) | inr m ↦ (let l = m.1 in absurd (omega arith)) ]
  ]

  -- ---- item by item

  -- each length is longer than the prefix's, and one of its family
  abbrev pub AreLonger : List BlockItem → Type 0
  AreLonger items = AllByRecursion (λ (item : BlockItem). (p.block.len < item.len) × (item.len ≤ width_of p.block.family)) items

  abbrev pub found : List Cidr → List BlockItem → List Cidr
  found earlier items = fits_of p.block (taken earlier) (lengths_of items)

  next_taken : (earlier : List Cidr) (b : Cidr) → taken earlier ++ b ∷ [] ≡ taken (earlier ++ b ∷ [])
  next_taken earlier b = append_assoc (child_blocks s.prefixes.rows p) earlier (b ∷ [])

  -- the first item finds nothing, or the least free block; the others are beside that
  record IsNext (earlier : List Cidr) (item : BlockItem) (items : List BlockItem) : Type 0 where
    block : Cidr
    least : IsLeastBlock s p earlier item.len block
    is : found earlier (item ∷ items) ≡ block ∷ found (earlier ++ block ∷ []) items
    alike : AreAlike (earlier ++ block ∷ [])

  record IsLast (earlier : List Cidr) (item : BlockItem) (items : List BlockItem) : Type 0 where
    none : (b : Cidr) → ¬ IsFreeBlock s p earlier item.len b
    is : found earlier (item ∷ items) ≡ []

  split : (earlier : List Cidr) (item : BlockItem) (items : List BlockItem) → AreAlike earlier → p.block.len < item.len → item.len ≤ width_of p.block.family → IsLast earlier item items ⊎ IsNext earlier item items
  split earlier item items alike longer short = go (first_fit_of p.block (taken earlier) item.len p.block.first) refl (find_first p.block (taken earlier) item.len p.block.first hp short)
    where
      go : (r : Option Cidr) → first_fit_of p.block (taken earlier) item.len p.block.first ≡ r → IsFirstFit p.block (taken earlier) item.len p.block.first r → IsLast earlier item items ⊎ IsNext earlier item items
      go None e k = inl (record { none = λ b f. k b (free_fits earlier item.len b alike f); is = fits_none p.block (taken earlier) item.len (lengths_of items) e })
      go (Some b) e k = inr (record {
        block = b;
        least = first_least earlier item.len b longer alike k;
        is = fits_some p.block (taken earlier) item.len (lengths_of items) b e ∙ ap (λ (bs : List Cidr). b ∷ fits_of p.block bs (lengths_of items)) (next_taken earlier b);
        alike = alike_more earlier b alike k.0.inside.family;
      })

  -- block k is the least for item k
  pub found_least : (items : List BlockItem) (earlier : List Cidr) (k : ℕ) (item : BlockItem) (b : Cidr) → AreLonger items → AreAlike earlier → slice_get items k ≡ Some item → slice_get (found earlier items) k ≡ Some b
      → IsLeastBlock s p (earlier ++ take k (found earlier items)) item.len b
  found_least [] earlier k item b longer alike q r = cc
  found_least (one ∷ items) earlier k item b longer alike q r = go k q r (split earlier one items alike longer.0.0 longer.0.1) (λ m c q r a. found_least items (earlier ++ c ∷ []) m item b longer.1 a q r)
    where
      go : (k : ℕ) → slice_get (one ∷ items) k ≡ Some item → slice_get (found earlier (one ∷ items)) k ≡ Some b → IsLast earlier one items ⊎ IsNext earlier one items
          → ((m : ℕ) (c : Cidr) → slice_get items m ≡ Some item → slice_get (found (earlier ++ c ∷ []) items) m ≡ Some b → AreAlike (earlier ++ c ∷ []) → IsLeastBlock s p ((earlier ++ c ∷ []) ++ take m (found (earlier ++ c ∷ []) items)) item.len b)
          → IsLeastBlock s p (earlier ++ take k (found earlier (one ∷ items))) item.len b
      go k q r (inl l) ih = (let r : slice_get {X = Cidr} [] k ≡ Some b = subst (λ (bs : List Cidr). slice_get bs k ≡ Some b) l.is r in cc)
      go zero q r (inr n) ih =
          let r : Some n.block ≡ Some b = subst (λ (bs : List Cidr). slice_get bs zero ≡ Some b) n.is r in
          let same : n.block ≡ b = cc in
          let its : one ≡ item = cc in
          let h : IsLeastBlock s p earlier item.len b = subst (λ (i : BlockItem). IsLeastBlock s p earlier i.len b) its (subst (IsLeastBlock s p earlier one.len) same n.least) in
          subst (λ (bs : List Cidr). IsLeastBlock s p bs item.len b) (sym (append-nil earlier)) h
      go (suc m) q r (inr n) ih =
          let r : slice_get (found (earlier ++ n.block ∷ []) items) m ≡ Some b = subst (λ (bs : List Cidr). slice_get bs (suc m) ≡ Some b) n.is r in
          let h = ih m n.block q r n.alike in
          let rest : List Cidr = take m (found (earlier ++ n.block ∷ []) items) in
          let same : (earlier ++ n.block ∷ []) ++ rest ≡ earlier ++ take (suc m) (found earlier (one ∷ items)) =
          append_assoc earlier (n.block ∷ []) rest ∙ ap (λ (bs : List Cidr). earlier ++ take (suc m) bs) (sym n.is) in
          subst (λ (bs : List Cidr). IsLeastBlock s p bs item.len b) same h

  -- the blocks are all that the first items get: for the next one nothing is free beside them
  abbrev pub IsStuckAt : List Cidr → List BlockItem → List Cidr → Type 0
  IsStuckAt earlier items bs = (item : BlockItem) × (slice_get items (length bs) ≡ Some item) × ((b : Cidr) → ¬ IsFreeBlock s p (earlier ++ bs) item.len b)

  -- where there are fewer blocks than items, nothing is free for the next item
  pub stuck : (items : List BlockItem) (earlier : List Cidr) → AreLonger items → AreAlike earlier → length (found earlier items) < length items
      → IsStuckAt earlier items (found earlier items)
  stuck [] earlier longer alike l = absurd (omega arith)
  stuck (one ∷ items) earlier longer alike l = go (split earlier one items alike longer.0.0 longer.0.1) (λ c l a. stuck items (earlier ++ c ∷ []) longer.1 a l)
    where
      go : IsLast earlier one items ⊎ IsNext earlier one items
          → ((c : Cidr) → length (found (earlier ++ c ∷ []) items) < length items → AreAlike (earlier ++ c ∷ []) → IsStuckAt (earlier ++ c ∷ []) items (found (earlier ++ c ∷ []) items))
          → IsStuckAt earlier (one ∷ items) (found earlier (one ∷ items))
      go (inl k) ih = subst (IsStuckAt earlier (one ∷ items)) (sym k.is) (one, refl, subst (λ (bs : List Cidr). (b : Cidr) → ¬ IsFreeBlock s p bs one.len b) (sym (append-nil earlier)) k.none)
      go (inr n) ih =
          let many = ap length n.is in
          let h = ih n.block (omega arith) n.alike in
          let rest : List Cidr = found (earlier ++ n.block ∷ []) items in
          subst (IsStuckAt earlier (one ∷ items)) (sym n.is) (h.0, h.1, subst (λ (bs : List Cidr). (b : Cidr) → ¬ IsFreeBlock s p bs h.0.len b) (append_assoc earlier (n.block ∷ []) rest) h.2)

  -- blocks that are the least for items, up to one for which nothing is free, are those that the search finds
  pub found_only : (items : List BlockItem) (earlier got : List Cidr) (item : BlockItem) → AreLonger items → AreAlike earlier
      → ((k : ℕ) (i : BlockItem) (b : Cidr) → slice_get items k ≡ Some i → slice_get got k ≡ Some b → IsLeastBlock s p (earlier ++ take k got) i.len b)
      → slice_get items (length got) ≡ Some item → ((b : Cidr) → ¬ IsFreeBlock s p (earlier ++ got) item.len b) → found earlier items ≡ got
  found_only [] earlier got item longer alike least there none = cc
  found_only (one ∷ items) earlier [] item longer alike least there none =
      let its : one ≡ item = cc in
      let none : (b : Cidr) → ¬ IsFreeBlock s p earlier one.len b = λ b f. none b (subst (λ (i : BlockItem). IsFreeBlock s p (earlier ++ []) i.len b) its (subst (λ (bs : List Cidr). IsFreeBlock s p bs one.len b) (sym (append-nil earlier)) f)) in
      elim (split earlier one items alike longer.0.0 longer.0.1) [
        | inl k ↦ k.is
        | inr n ↦ absurd (none n.block n.least.free)
      ]
  found_only (one ∷ items) earlier (c ∷ got) item longer alike least there none =
      let first : IsLeastBlock s p earlier one.len c = subst (λ (bs : List Cidr). IsLeastBlock s p bs one.len c) (append-nil earlier) (least zero one c refl refl) in
      let is : Some c ≡ first_fit_of p.block (taken earlier) one.len p.block.first = find_only p.block (taken earlier) one.len p.block.first (Some c) hp longer.0.1 (least_first earlier one.len c longer.0.0 alike first) in
      let rest = found_only items (earlier ++ c ∷ []) got item longer.1 (alike_more earlier c alike first.free.inside.inside.family)
      (λ k i b q r. subst (λ (bs : List Cidr). IsLeastBlock s p bs i.len b) (sym (append_assoc earlier (c ∷ []) (take k got))) (least (suc k) i b q r))
      there (λ b f. none b (subst (λ (bs : List Cidr). IsFreeBlock s p bs item.len b) (append_assoc earlier (c ∷ []) got) f)) in
      fits_some p.block (taken earlier) one.len (lengths_of items) c (sym is) ∙ ap (λ (bs : List Cidr). c ∷ fits_of p.block bs (lengths_of items)) (next_taken earlier c) ∙ ap (λ (bs : List Cidr). c ∷ bs) rest
