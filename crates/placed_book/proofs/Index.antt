-- The rows that an index names: they have its ids, and what a row put, replaced or taken out does to them.
use Rattle.std.proofs.Common.{◌≡◌, ◌≢◌, ℕ, zero, suc, ◌+◌, ◌<◌, ◌≤◌, ◌==◌, nat_lt, Bool, true, false, cond, List, [], ◌∷◌, ◌++◌, length, Option, Some, None, set, remove, get_or, slice_get, refl, ap, sym, subst, ◌∙◌, arith, if◌then◌else◌}
use Rattle.std.specs.List.{swap_remove}
use Rattle.std.proofs.lemmas.Bool.Decides.{nat_tests}
use Rattle.std.proofs.lemmas.Option.{slice_get_within, slice_get-get_or, get_or_from_slice_get}
use Rattle.ipam_data.specs.RowList.{row_at, row_after, with_row, without, Rises}
use Rattle.placed_book.specs.RowBook.{place, IsAt, IsFitting}
use Rattle.placed_book.proofs.RowPlaces.{all_above, none_below, eq_true, eq_false, row_at_index, after_place, set_at, remove_at, with_row_new, rises_with, rises_without}
use Rattle.placed_book.specs.declared.indexed.Entry.{Entry}
use Rattle.placed_book.specs.Indexed.{entry_id, resettled, IsOnlyFor, onto, rows_of, IsKept, AreKept}
use Rattle.placed_book.proofs.Slots.{set_here, set_else, more_here, more_else, swap_here, swap_else}

-- no entry names the slot
abbrev pub AreApart : ℕ → List Entry → Type 0
AreApart slot [] = Unit {0}
AreApart slot (e ∷ es) = (e.slot ≢ slot) × AreApart slot es

-- ---- the index alone

-- where no entry has the id, none names its slot
pub apart_none : (n slot : ℕ) (es : List Entry) → IsOnlyFor n slot es → row_at entry_id es n ≡ None → AreApart slot es
apart_none n slot [] o h = tt
apart_none n slot (e ∷ es) o h = go (e.id == n) refl h (apart_none n slot es o.1)
  where
    go : (t : Bool) → (e.id == n) ≡ t → cond t (Some e) (row_at entry_id es n) ≡ None → (row_at entry_id es n ≡ None → AreApart slot es) → AreApart slot (e ∷ es)
    go true t h ih = cc
    go false t h ih = ((λ q. (let i = o.0 q in let s = eq_true e.id n i in let f : true ≡ false = sym s ∙ t in cc)), ih h)

pub settled_apart : (from to : ℕ) (es : List Entry) → AreApart from es → resettled from to es ≡ es
settled_apart from to [] a = refl
settled_apart from to (e ∷ es) a = rw (eq_false e.slot from a.0) (ap (λ (xs : List Entry). e ∷ xs) (settled_apart from to es a.1))

pub settled_none : (n from to : ℕ) (es : List Entry) → IsOnlyFor n from es → row_at entry_id es n ≡ None → resettled from to es ≡ es
settled_none n from to es o h = settled_apart from to es (apart_none n from es o h)

-- the entry of the id names the slot
pub settled_at : (low n from to : ℕ) (es : List Entry) (k : ℕ) (d : Entry) → Rises entry_id low es → k < length es → (get_or es k d).id ≡ n → (get_or es k d).slot ≡ from → IsOnlyFor n from es → resettled from to es ≡ set es k (record { id = n; slot = to })
settled_at low n from to [] k d r h i s o = absurd (omega arith)
settled_at low n from to (e ∷ es) zero d r h i s o =
    let rest = settled_none n from to es o.1 (none_below entry_id e.id n es r.1 (omega arith)) in
    rw (eq_true e.slot from s, rest, i) refl
settled_at low n from to (e ∷ es) (suc k) d r h i s o =
    let above = all_above entry_id e.id es k d r.1 (omega arith) in
    rw (eq_false e.slot from (λ q. (let same = o.0 q in absurd (omega arith))))
    (ap (λ (xs : List Entry). e ∷ xs) (settled_at e.id n from to es k d r.1 (omega arith) i s o.1))

-- it names another one
pub settled_other : (low n from to : ℕ) (es : List Entry) (k : ℕ) (d : Entry) → Rises entry_id low es → k < length es → (get_or es k d).id ≡ n → (get_or es k d).slot ≢ from → IsOnlyFor n from es → resettled from to es ≡ es
settled_other low n from to [] k d r h i s o = absurd (omega arith)
settled_other low n from to (e ∷ es) zero d r h i s o =
    let rest = settled_none n from to es o.1 (none_below entry_id e.id n es r.1 (omega arith)) in
    rw (eq_false e.slot from s, rest) refl
settled_other low n from to (e ∷ es) (suc k) d r h i s o =
    let above = all_above entry_id e.id es k d r.1 (omega arith) in
    rw (eq_false e.slot from (λ q. (let same = o.0 q in absurd (omega arith))))
    (ap (λ (xs : List Entry). e ∷ xs) (settled_other e.id n from to es k d r.1 (omega arith) i s o.1))

pub length_settled : (from to : ℕ) (es : List Entry) → length (resettled from to es) ≡ length es
length_settled from to [] = refl
length_settled from to (e ∷ es) = ap suc (length_settled from to es)

-- the id of an entry taken out is no other's
pub none_removed : (low n : ℕ) (es : List Entry) (k : ℕ) (d : Entry) → Rises entry_id low es → k < length es → (get_or es k d).id ≡ n → row_at entry_id (remove es k) n ≡ None
none_removed low n [] k d r h i = absurd (omega arith)
none_removed low n (e ∷ es) zero d r h i = none_below entry_id e.id n es r.1 (omega arith)
none_removed low n (e ∷ es) (suc k) d r h i =
    let above = all_above entry_id e.id es k d r.1 (omega arith) in
    rw (eq_false e.id n (omega arith)) (none_removed e.id n es k d r.1 (omega arith) i)

-- ---- the rows of an index

module _ {T : Type 0} (id : T → ℕ) where
  pub rows_cons : (slots : List T) (e : Entry) (es : List Entry) (k : IsKept id slots e) → rows_of slots (e ∷ es) ≡ k.row ∷ rows_of slots es
  rows_cons slots e es k = ap (λ (o : Option T). onto o (rows_of slots es)) k.there

  pub length_rows : (slots : List T) (es : List Entry) → AreKept id slots es → length (rows_of slots es) ≡ length es
  length_rows slots [] h = refl
  length_rows slots (e ∷ es) h = (let n = length_rows slots es h.1 in let m = ap length (rows_cons slots e es h.0) in omega arith)

  pub kept_at : (slots : List T) (es : List Entry) (k : ℕ) (d : Entry) → AreKept id slots es → k < length es → IsKept id slots (get_or es k d)
  kept_at slots [] k d h l = absurd (omega arith)
  kept_at slots (e ∷ es) zero d h l = h.0
  kept_at slots (e ∷ es) (suc k) d h l = kept_at slots es k d h.1 (omega arith)

  -- the row at an index is the one in the slot of the entry there
  pub get_rows : (slots : List T) (es : List Entry) (k : ℕ) (d : Entry) → AreKept id slots es → k < length es → slice_get (rows_of slots es) k ≡ slice_get slots (get_or es k d).slot
  get_rows slots [] k d h l = absurd (omega arith)
  get_rows slots (e ∷ es) zero d h l = ap (λ (xs : List T). slice_get xs 0) (rows_cons slots e es h.0) ∙ sym h.0.there
  get_rows slots (e ∷ es) (suc k) d h l = ap (λ (xs : List T). slice_get xs (suc k)) (rows_cons slots e es h.0) ∙ get_rows slots es k d h.1 (omega arith)

  pub past_rows : (slots : List T) (es : List Entry) (k : ℕ) → AreKept id slots es → length es ≤ k → slice_get (rows_of slots es) k ≡ None
  past_rows slots [] k h l = refl
  past_rows slots (e ∷ es) zero h l = absurd (omega arith)
  past_rows slots (e ∷ es) (suc k) h l = ap (λ (xs : List T). slice_get xs (suc k)) (rows_cons slots e es h.0) ∙ past_rows slots es k h.1 (omega arith)

  -- ids of the rows are those of the index
  pub place_rows : (slots : List T) (es : List Entry) (n : ℕ) → AreKept id slots es → place id n (rows_of slots es) ≡ place entry_id n es
  place_rows slots [] n h = refl
  place_rows slots (e ∷ es) n h =
      ap (λ (xs : List T). place id n xs) (rows_cons slots e es h.0)
      ∙ ap (λ (m : ℕ). if nat_lt m n then place id n (rows_of slots es) + 1 else 0) h.0.same
      ∙ ap (λ (m : ℕ). if nat_lt e.id n then m + 1 else 0) (place_rows slots es n h.1)

  pub none_rows : (slots : List T) (es : List Entry) (n : ℕ) → AreKept id slots es → row_at entry_id es n ≡ None → row_at id (rows_of slots es) n ≡ None
  none_rows slots [] n h e = refl
  none_rows slots (x ∷ es) n h e = go (x.id == n) refl e (none_rows slots es n h.1)
    where
      go : (t : Bool) → (x.id == n) ≡ t → cond t (Some x) (row_at entry_id es n) ≡ None → (row_at entry_id es n ≡ None → row_at id (rows_of slots es) n ≡ None) → row_at id (rows_of slots (x ∷ es)) n ≡ None
      go true t e ih = cc
      go false t e ih =
          ap (λ (xs : List T). row_at id xs n) (rows_cons slots x es h.0) ∙ ap (λ (m : ℕ). cond (m == n) (Some h.0.row) (row_at id (rows_of slots es) n)) h.0.same
          ∙ ap (λ (b : Bool). cond b (Some h.0.row) (row_at id (rows_of slots es) n)) t ∙ ih e

  pub id_rows : (slots : List T) (es : List Entry) (k : ℕ) (d : T) (e : Entry) → AreKept id slots es → k < length es → id (get_or (rows_of slots es) k d) ≡ (get_or es k e).id
  id_rows slots [] k d e h l = absurd (omega arith)
  id_rows slots (x ∷ es) zero d e h l = ap (λ (xs : List T). id (get_or xs 0 d)) (rows_cons slots x es h.0) ∙ h.0.same
  id_rows slots (x ∷ es) (suc k) d e h l = ap (λ (xs : List T). id (get_or xs (suc k) d)) (rows_cons slots x es h.0) ∙ id_rows slots es k d e h.1 (omega arith)

  pub at_rows : (slots : List T) (es : List Entry) (n k : ℕ) (e : Entry) → AreKept id slots es → IsAt entry_id es n k → IsAt id (rows_of slots es) n k
  at_rows slots es n k e h a = (let l = a.within in let len = length_rows slots es h in record { within = omega arith; same = λ d. id_rows slots es k d e h a.within ∙ a.same e })

  pub rises_rows : (low : ℕ) (slots : List T) (es : List Entry) → AreKept id slots es → Rises entry_id low es → Rises id low (rows_of slots es)
  rises_rows low slots [] h r = tt
  rises_rows low slots (e ∷ es) h r =
      let same = h.0.same in
      let above = r.0 in
      subst (Rises id low) (sym (rows_cons slots e es h.0)) (omega arith, subst (λ (m : ℕ). Rises id m (rows_of slots es)) (sym same) (rises_rows e.id slots es h.1 r.1))

  -- the index rises where its rows do
  pub rises_back : (low : ℕ) (slots : List T) (es : List Entry) → AreKept id slots es → Rises id low (rows_of slots es) → Rises entry_id low es
  rises_back low slots [] h r = tt
  rises_back low slots (e ∷ es) h r =
      let same = h.0.same in
      let q = subst (Rises id low) (rows_cons slots e es h.0) r in
      let above = q.0 in
      (omega arith, rises_back e.id slots es h.1 (subst (λ (m : ℕ). Rises id m (rows_of slots es)) same q.1))

  -- ---- a change of the slots

  -- entries that name the slot of a row have its id
  pub only_kept : (slots : List T) (slot : ℕ) (x : T) (es : List Entry) → slice_get slots slot ≡ Some x → AreKept id slots es → IsOnlyFor (id x) slot es
  only_kept slots slot x [] g h = tt
  only_kept slots slot x (e ∷ es) g h =
      ((λ q. (let f : Some h.0.row ≡ Some x = sym h.0.there ∙ ap (λ (k : ℕ). slice_get slots k) q ∙ g in let s : h.0.row ≡ x = cc in sym h.0.same ∙ ap id s)), only_kept slots slot x es g h.1)

  -- entries of other slots have what they had
  pub others_same : (slots : List T) (slot : ℕ) (row : T) (es : List Entry) → AreApart slot es → AreKept id slots es → (rows_of (set slots slot row) es ≡ rows_of slots es) × AreKept id (set slots slot row) es
  others_same slots slot row [] a h = (refl, tt)
  others_same slots slot row (e ∷ es) a h =
      let rest = others_same slots slot row es a.1 h.1 in
      let here = set_else slots slot e.slot row a.0 in
      (ap (λ (o : Option T). onto o (rows_of (set slots slot row) es)) here ∙ ap (λ (xs : List T). onto (slice_get slots e.slot) xs) rest.0, (record { row = h.0.row; there = here ∙ h.0.there; same = h.0.same }, rest.1))

  -- a row in the place of another
  pub put_rows : (low : ℕ) (slots : List T) (es : List Entry) (k : ℕ) (d : Entry) (row : T) → Rises entry_id low es → AreKept id slots es → k < length es → (get_or es k d).slot < length slots → id row ≡ (get_or es k d).id
      → (rows_of (set slots (get_or es k d).slot row) es ≡ set (rows_of slots es) k row) × AreKept id (set slots (get_or es k d).slot row) es
  put_rows low slots [] k d row r h l w same = absurd (omega arith)
  put_rows low slots (e ∷ es) zero d row r h l w same =
      let named = only_kept slots e.slot h.0.row es h.0.there h.1 in
      let apart = apart_none (id h.0.row) e.slot es named (none_below entry_id e.id (id h.0.row) es r.1 (let s = h.0.same in omega arith)) in
      let rest = others_same slots e.slot row es apart h.1 in
      let here = set_here slots e.slot row w in (
        ap (λ (o : Option T). onto o (rows_of (set slots e.slot row) es)) here ∙ ap (λ (xs : List T). row ∷ xs) rest.0 ∙ sym (ap (λ (xs : List T). set xs 0 row) (rows_cons slots e es h.0)),
        (record { row = row; there = here; same = same }, rest.1),
      )
  put_rows low slots (e ∷ es) (suc k) d row r h l w same =
      let slot : ℕ = (get_or es k d).slot in
      let rest = put_rows e.id slots es k d row r.1 h.1 (omega arith) w same in
      let there = kept_at slots es k d h.1 (omega arith) in
      let above = all_above entry_id e.id es k d r.1 (omega arith) in
      let named = only_kept slots slot there.row (e ∷ []) there.there (h.0, tt) in
      let apart : e.slot ≢ slot = λ q. (let i = named.0 q in let s = there.same in absurd (omega arith)) in
      let here = set_else slots slot e.slot row apart in (
        ap (λ (o : Option T). onto o (rows_of (set slots slot row) es)) (here ∙ h.0.there) ∙ ap (λ (xs : List T). h.0.row ∷ xs) rest.0 ∙ sym (ap (λ (xs : List T). set xs (suc k) row) (rows_cons slots e es h.0)),
        (record { row = h.0.row; there = here ∙ h.0.there; same = h.0.same }, rest.1),
      )

  -- a row behind all
  pub more_rows : (slots : List T) (es : List Entry) (row : T) (n : ℕ) → AreKept id slots es → id row ≡ n
      → (rows_of (slots ++ row ∷ []) (es ++ record { id = n; slot = length slots } ∷ []) ≡ rows_of slots es ++ row ∷ []) × AreKept id (slots ++ row ∷ []) (es ++ record { id = n; slot = length slots } ∷ [])
  more_rows slots [] row n h same = (let here = more_here slots row in (ap (λ (o : Option T). onto o []) here, (record { row = row; there = here; same = same }, tt)))
  more_rows slots (x ∷ es) row n h same =
      let rest = more_rows slots es row n h.1 same in
      let here = more_else slots x.slot row h.0.row h.0.there in (
        ap (λ (o : Option T). onto o (rows_of (slots ++ row ∷ []) (es ++ record { id = n; slot = length slots } ∷ []))) here ∙ ap (λ (xs : List T). h.0.row ∷ xs) rest.0
            ∙ sym (ap (λ (xs : List T). xs ++ row ∷ []) (rows_cons slots x es h.0)),
        (record { row = h.0.row; there = here; same = h.0.same }, rest.1),
      )

  -- an entry taken out
  pub less_rows : (slots : List T) (es : List Entry) (k : ℕ) → AreKept id slots es → k < length es → (rows_of slots (remove es k) ≡ remove (rows_of slots es) k) × AreKept id slots (remove es k)
  less_rows slots [] k h l = absurd (omega arith)
  less_rows slots (e ∷ es) zero h l = (sym (ap (λ (xs : List T). remove xs 0) (rows_cons slots e es h.0)), h.1)
  less_rows slots (e ∷ es) (suc k) h l =
      let rest = less_rows slots es k h.1 (omega arith) in (
        ap (λ (o : Option T). onto o (rows_of slots (remove es k))) h.0.there ∙ ap (λ (xs : List T). h.0.row ∷ xs) rest.0 ∙ sym (ap (λ (xs : List T). remove xs (suc k)) (rows_cons slots e es h.0)),
        (h.0, rest.1),
      )

  -- the last slot's row moves into a slot that no entry names
  pub moved_rows : (slots : List T) (to last : ℕ) (d x : T) (es : List Entry) → to < length slots → last + 1 ≡ length slots → slice_get slots last ≡ Some x → AreApart to es → AreKept id slots es
      → (rows_of (swap_remove slots to d) (resettled last to es) ≡ rows_of slots es) × AreKept id (swap_remove slots to d) (resettled last to es)
  moved_rows slots to last d x [] w l g a h = (refl, tt)
  moved_rows slots to last d x (e ∷ es) w l g a h = go (e.slot == last) refl (moved_rows slots to last d x es w l g a.1 h.1)
    where
      done : (f : Entry) → slice_get (swap_remove slots to d) f.slot ≡ Some h.0.row → f.id ≡ e.id
          → (rows_of (swap_remove slots to d) (resettled last to es) ≡ rows_of slots es) × AreKept id (swap_remove slots to d) (resettled last to es)
          → (rows_of (swap_remove slots to d) (f ∷ resettled last to es) ≡ rows_of slots (e ∷ es)) × AreKept id (swap_remove slots to d) (f ∷ resettled last to es)
      done f here i rest = (
        ap (λ (o : Option T). onto o (rows_of (swap_remove slots to d) (resettled last to es))) here ∙ ap (λ (xs : List T). h.0.row ∷ xs) rest.0 ∙ sym (rows_cons slots e es h.0),
        (record { row = h.0.row; there = here; same = h.0.same ∙ sym i }, rest.1),
      )

      go : (t : Bool) → (e.slot == last) ≡ t
          → (rows_of (swap_remove slots to d) (resettled last to es) ≡ rows_of slots es) × AreKept id (swap_remove slots to d) (resettled last to es)
          → (rows_of (swap_remove slots to d) (resettled last to (e ∷ es)) ≡ rows_of slots (e ∷ es)) × AreKept id (swap_remove slots to d) (resettled last to (e ∷ es))
      go true t rest =
          let q : e.slot ≡ last = grind (arith, nat_tests, t) in
          let f : Some h.0.row ≡ Some x = sym h.0.there ∙ ap (λ (k : ℕ). slice_get slots k) q ∙ g in
          let p = swap_here slots to last d x w l (λ r. a.0 (q ∙ r)) g in
          rw t (done (record { id = e.id; slot = to }) (p ∙ sym f) refl rest)
      go false t rest =
          let q : e.slot ≢ last = λ r. (let s = eq_true e.slot last r in let f : true ≡ false = sym s ∙ t in cc) in
          rw t (done e (swap_else slots to last e.slot d h.0.row l q a.0 h.0.there) refl rest)

  -- ---- the calls

  pub slot_within : (slots : List T) (es : List Entry) (k : ℕ) (d : Entry) → AreKept id slots es → k < length es → (get_or es k d).slot < length slots
  slot_within slots es k d h l = (let t = kept_at slots es k d h l in slice_get_within slots (get_or es k d).slot t.row t.there)

  -- the row at an index
  pub entry_rows : (slots : List T) (es : List Entry) (k : ℕ) (e : Entry) → AreKept id slots es → slice_get es k ≡ Some e → slice_get (rows_of slots es) k ≡ slice_get slots e.slot
  entry_rows slots es k e h g = get_rows slots es k e h (slice_get_within es k e g) ∙ ap (λ (f : Entry). slice_get slots f.slot) (get_or_from_slice_get es k e e g)

  pub no_entry_rows : (slots : List T) (es : List Entry) (k : ℕ) → AreKept id slots es → slice_get es k ≡ None → slice_get (rows_of slots es) k ≡ None
  no_entry_rows slots [] k h g = refl
  no_entry_rows slots (e ∷ es) zero h g = cc
  no_entry_rows slots (e ∷ es) (suc k) h g = ap (λ (xs : List T). slice_get xs (suc k)) (rows_cons slots e es h.0) ∙ no_entry_rows slots es k h.1 g

  -- the row of an id
  pub look_rows : (slots : List T) (es : List Entry) (n k : ℕ) (d : Entry) → AreKept id slots es → Rises entry_id 0 es → IsAt entry_id es n k → row_at id (rows_of slots es) n ≡ slice_get slots (get_or es k d).slot
  look_rows slots es n k d h r a =
      let t = kept_at slots es k d h a.within in
      let b = at_rows slots es n k d h a in
      row_at_index id 0 n (rows_of slots es) k t.row (rises_rows 0 slots es h r) b.within (b.same t.row) ∙ sym (slice_get-get_or (rows_of slots es) k t.row b.within) ∙ get_rows slots es k d h a.within

  -- the row after an id
  pub after_rows : (slots : List T) (es : List Entry) (n k : ℕ) (d : Entry) → AreKept id slots es → k ≡ place entry_id (n + 1) es → k < length es → row_after id (rows_of slots es) n ≡ slice_get slots (get_or es k d).slot
  after_rows slots es n k d h p l = after_place id n (rows_of slots es) ∙ ap (λ (m : ℕ). slice_get (rows_of slots es) m) (place_rows slots es (n + 1) h ∙ sym p) ∙ get_rows slots es k d h l

  pub after_none : (slots : List T) (es : List Entry) (n k : ℕ) → AreKept id slots es → k ≡ place entry_id (n + 1) es → length es ≤ k → row_after id (rows_of slots es) n ≡ None
  after_none slots es n k h p l = after_place id n (rows_of slots es) ∙ ap (λ (m : ℕ). slice_get (rows_of slots es) m) (place_rows slots es (n + 1) h ∙ sym p) ∙ past_rows slots es k h l

  -- a row is put in the place of the one of its id
  pub put_old : (slots : List T) (es : List Entry) (k slot : ℕ) (d : Entry) (row : T) → Rises entry_id 0 es → AreKept id slots es → IsAt entry_id es (id row) k → slot ≡ (get_or es k d).slot
      → (rows_of (set slots slot row) es ≡ with_row id (rows_of slots es) row) × AreKept id (set slots slot row) es
  put_old slots es k slot d row r h a q =
      let s = put_rows 0 slots es k d row r h a.within (slot_within slots es k d h a.within) (sym (a.same d)) in
      let w = set_at id (rows_of slots es) row k (rises_rows 0 slots es h r) (at_rows slots es (id row) k d h a) in
      subst (λ (m : ℕ). (rows_of (set slots m row) es ≡ with_row id (rows_of slots es) row) × AreKept id (set slots m row) es) (sym q) (s.0 ∙ sym w, s.1)

  -- a row is put behind all
  pub put_new : (slots : List T) (es : List Entry) (n slot : ℕ) (row : T) → Rises entry_id 0 es → AreKept id slots es → row_at entry_id es (id row) ≡ None → n ≡ id row → slot ≡ length slots → 1 ≤ id row → IsFitting id (rows_of slots es) row
      → (rows_of (slots ++ row ∷ []) (es ++ record { id = n; slot = slot } ∷ []) ≡ with_row id (rows_of slots es) row) × AreKept id (slots ++ row ∷ []) (es ++ record { id = n; slot = slot } ∷ []) × Rises entry_id 0 (es ++ record { id = n; slot = slot } ∷ [])
  put_new slots es n slot row r h none i q low fits =
      let s = more_rows slots es row n h (sym i) in
      let w = with_row_new id (rows_of slots es) row (none_rows slots es (id row) h none) in
      let same = s.0 ∙ sym w in
      let rises = rises_back 0 (slots ++ row ∷ []) (es ++ record { id = n; slot = length slots } ∷ []) s.1 (subst (Rises id 0) (sym same) (rises_with id 0 (rows_of slots es) row low (rises_rows 0 slots es h r) fits)) in
      subst (λ (m : ℕ). (rows_of (slots ++ row ∷ []) (es ++ record { id = n; slot = m } ∷ []) ≡ with_row id (rows_of slots es) row) × AreKept id (slots ++ row ∷ []) (es ++ record { id = n; slot = m } ∷ []) × Rises entry_id 0 (es ++ record { id = n; slot = m } ∷ []))
      (sym q) (same, s.1, rises)

  -- the index without an entry
  pub cut_ordered : (es : List Entry) (n k : ℕ) (d : Entry) → Rises entry_id 0 es → IsAt entry_id es n k → Rises entry_id 0 (remove es k)
  cut_ordered es n k d r a = subst (Rises entry_id 0) (remove_at entry_id es n k d r a) (rises_without entry_id 0 n es r)

  -- the row of an id is taken out, and the last slot's row stands in its slot
  pub cut_one : (slots : List T) (es : List Entry) (n k last : ℕ) (e : Entry) (d x : T) → Rises entry_id 0 es → AreKept id slots es → IsAt entry_id es n k → e ≡ get_or es k e → last + 1 ≡ length slots → slice_get slots last ≡ Some x
      → (rows_of (swap_remove slots e.slot d) (resettled last e.slot (remove es k)) ≡ without id (rows_of slots es) n) × AreKept id (swap_remove slots e.slot d) (resettled last e.slot (remove es k)) × Rises entry_id 0 (resettled last e.slot (remove es k))
  cut_one slots es n k last e d x r h a q l g =
      let kept : IsKept id slots e = subst (IsKept id slots) (sym q) (kept_at slots es k e h a.within) in
      let i : e.id ≡ n = ap entry_id q ∙ a.same e in
      let less = less_rows slots es k h a.within in
      let only = only_kept slots e.slot kept.row (remove es k) kept.there less.1 in
      let apart = apart_none (id kept.row) e.slot (remove es k) only (none_removed 0 (id kept.row) es k e r a.within (a.same e ∙ sym i ∙ sym kept.same)) in
      let moved = moved_rows slots e.slot last d x (remove es k) (slice_get_within slots e.slot kept.row kept.there) l g apart less.1 in
      let rises = rises_rows 0 slots es h r in
      let gone = remove_at id (rows_of slots es) n k kept.row rises (at_rows slots es n k e h a) in
      let same = moved.0 ∙ less.0 ∙ sym gone in
      (same, moved.1, rises_back 0 (swap_remove slots e.slot d) (resettled last e.slot (remove es k)) moved.1 (subst (Rises id 0) (sym same) (rises_without id 0 n (rows_of slots es) rises)))
