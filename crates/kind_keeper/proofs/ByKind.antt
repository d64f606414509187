-- The rows of one kind among those of other kinds.
use Rattle.std.proofs.Common.{subst, ◌≡◌, ◌≢◌, ℕ, zero, suc, ◌+◌, ◌<◌, ◌==◌, nat_lt, Bool, true, false, not, cond, if◌then◌else◌, List, [], ◌∷◌, ◌++◌, length, get_or, set, fold, refl, ap, sym, ◌∙◌, arith, append_assoc, append-nil}
use Rattle.std.proofs.lemmas.List.Elements.{filter-append}
use Rattle.ipam_data.specs.declared.kinds.Kind.{Kind}
use Rattle.ipam_data.specs.RowList.{placed, without, Rises, AllBelow}
use Rattle.ipam_data.proofs.RowLists.{eq_false}
use Rattle.ipam_data.proofs.Placed.{AllOver, over_append, rises_less, below_more, placed_behind, placed_before}
use Rattle.stored_tables.specs.declared.tables.Row.{Row}
use Rattle.stored_tables.specs.Stored.{kind_number, place_of, row_place}
use Rattle.kind_keeper.specs.Shelves.{Shelf, all_rows, AllOfKind, AreByKind}

-- ---- a part of rows that stand in order

rises_front : (low : ℕ) (xs ys : List Row) → Rises row_place low (xs ++ ys) → Rises row_place low xs
rises_front low [] ys r = tt
rises_front low (x ∷ xs) ys r = (r.0, rises_front (row_place x) xs ys r.1)

rises_back : (low : ℕ) (xs ys : List Row) → Rises row_place low (xs ++ ys) → Rises row_place low ys
rises_back low [] ys r = r
rises_back low (x ∷ xs) ys r = let a = r.0 in rises_less row_place (row_place x) low ys (omega arith) (rises_back (row_place x) xs ys r.1)

-- each list stands in order where all do
pub rises_at : (low i : ℕ) (shelves : List Shelf) (d : Shelf) → Rises row_place low (all_rows shelves) → i < length shelves → Rises row_place low (get_or shelves i d).items
rises_at low i [] d r h = absurd (omega arith)
rises_at low zero (s ∷ ss) d r h = rises_front low s.items (all_rows ss) r
rises_at low (suc i) (s ∷ ss) d r h = rises_at low i ss d (rises_back low s.items (all_rows ss) r) (omega arith)

-- rows in order, placed one after another, are those rows
placed_all : (p : ℕ) (before rows : List Row) → AllBelow row_place (p + 1) before → Rises row_place p rows → fold (placed row_place) before rows ≡ before ++ rows
placed_all p before [] b r = sym (append-nil before)
placed_all p before (row ∷ rows) b r =
    let l = r.0 in
    let behind : placed row_place before row ≡ before ++ row ∷ [] =
    ap (λ (zs : List Row). placed row_place zs row) (sym (append-nil before)) ∙ placed_behind row_place before [] row (below_more row_place (p + 1) (row_place row) before (omega arith) b) in
    ap (λ (zs : List Row). fold (placed row_place) zs rows) behind
    ∙ placed_all (row_place row) (before ++ row ∷ []) rows (below_push before row (below_more row_place (p + 1) (row_place row + 1) before (omega arith) b)) r.1
    ∙ append_assoc before (row ∷ []) rows
  where
    below_push : (xs : List Row) (row : Row) → AllBelow row_place (row_place row + 1) xs → AllBelow row_place (row_place row + 1) (xs ++ row ∷ [])
    below_push [] row a = (omega arith, tt)
    below_push (x ∷ xs) row a = (a.0, below_push xs row a.1)

pub rebuilt : (rows : List Row) → Rises row_place 0 rows → fold (placed row_place) [] rows ≡ rows
rebuilt rows r = placed_all 0 [] rows tt r

-- ---- the rows of a kind

pub kind_at : (n i : ℕ) (shelves : List Shelf) (d : Shelf) → AreByKind n shelves → i < length shelves → AllOfKind (n + i) (get_or shelves i d).items
kind_at n i [] d a h = absurd (omega arith)
kind_at n zero (s ∷ ss) d a h = subst (λ (m : ℕ). AllOfKind m s.items) (omega arith) a.0
kind_at n (suc i) (s ∷ ss) d a h = subst (λ (m : ℕ). AllOfKind m (get_or ss i d).items) (omega arith) (kind_at (n + 1) i ss d a.1 (omega arith))

pub kinds_set : (n i : ℕ) (shelves : List Shelf) (new : Shelf) → AreByKind n shelves → AllOfKind (n + i) new.items → AreByKind n (set shelves i new)
kinds_set n i [] new a h = tt
kinds_set n zero (s ∷ ss) new a h = (subst (λ (m : ℕ). AllOfKind m new.items) (omega arith) h, a.1)
kinds_set n (suc i) (s ∷ ss) new a h = (a.0, kinds_set (n + 1) i ss new a.1 (subst (λ (m : ℕ). AllOfKind m new.items) (omega arith) h))

pub kind_placed : (n : ℕ) (rows : List Row) (row : Row) → AllOfKind n rows → kind_number row.kind ≡ n → row.id < 4294967296 → AllOfKind n (placed row_place rows row)
kind_placed n [] row a k f = (k, f, tt)
kind_placed n (x ∷ rows) row a k f = go (row_place x == row_place row) (nat_lt (row_place row) (row_place x)) (kind_placed n rows row a.2 k f)
  where
    go : (t u : Bool) → AllOfKind n (placed row_place rows row) → AllOfKind n (if t then row ∷ rows else (if u then row ∷ x ∷ rows else x ∷ placed row_place rows row))
    go true u ih = (k, f, a.2)
    go false true ih = (k, f, a)
    go false false ih = (a.0, a.1, ih)

pub kind_without : (n : ℕ) (rows : List Row) (p : ℕ) → AllOfKind n rows → AllOfKind n (without row_place rows p)
kind_without n [] p a = tt
kind_without n (x ∷ rows) p a = go (not (row_place x == p)) (kind_without n rows p a.2)
  where
    go : (t : Bool) → AllOfKind n (without row_place rows p) → AllOfKind n (cond t (x ∷ without row_place rows p) (without row_place rows p))
    go true ih = (a.0, a.1, ih)
    go false ih = ih

-- ---- a row is placed in the list of its kind

below_kind : (n : ℕ) (rows : List Row) (row : Row) → AllOfKind n rows → n < kind_number row.kind → AllBelow row_place (row_place row) rows
below_kind n [] row a h = tt
below_kind n (x ∷ rows) row a h = (let k = a.0 in let f = a.1 in omega arith, below_kind n rows row a.2 h)

over_kind : (n : ℕ) (rows : List Row) (row : Row) → AllOfKind n rows → kind_number row.kind < n → row.id < 4294967296 → AllOver row_place (row_place row) rows
over_kind n [] row a h f = tt
over_kind n (x ∷ rows) row a h f = (let k = a.0 in omega arith, over_kind n rows row a.2 h f)

over_kinds : (n : ℕ) (shelves : List Shelf) (row : Row) → AreByKind n shelves → kind_number row.kind < n → row.id < 4294967296 → AllOver row_place (row_place row) (all_rows shelves)
over_kinds n [] row a h f = tt
over_kinds n (s ∷ ss) row a h f = over_append row_place (row_place row) s.items (all_rows ss) (over_kind n s.items row a.0 h f) (over_kinds (n + 1) ss row a.1 (omega arith) f)

pub placed_at : (n i : ℕ) (shelves : List Shelf) (new d : Shelf) (row : Row) → AreByKind n shelves → i < length shelves → n + i ≡ kind_number row.kind → row.id < 4294967296
    → new.items ≡ placed row_place (get_or shelves i d).items row → all_rows (set shelves i new) ≡ placed row_place (all_rows shelves) row
placed_at n i [] new d row a h k f e = absurd (omega arith)
placed_at n zero (s ∷ ss) new d row a h k f e =
    ap (λ (xs : List Row). xs ++ all_rows ss) e ∙ sym (placed_before row_place s.items (all_rows ss) row (over_kinds (n + 1) ss row a.1 (omega arith) f))
placed_at n (suc i) (s ∷ ss) new d row a h k f e =
    ap (λ (xs : List Row). s.items ++ xs) (placed_at (n + 1) i ss new d row a.1 (omega arith) (omega arith) f e)
    ∙ sym (placed_behind row_place s.items (all_rows ss) row (below_kind n s.items row a.0 (omega arith)))

-- ---- a row is taken out of the list of its kind

without_other : (n : ℕ) (rows : List Row) (kind : Kind) (id : ℕ) → AllOfKind n rows → id < 4294967296 → n ≢ kind_number kind → without row_place rows (place_of kind id) ≡ rows
without_other n [] kind id a f h = refl
without_other n (x ∷ rows) kind id a f h =
    let k = a.0 in
    let l = a.1 in
    rw (eq_false (row_place x) (place_of kind id) (omega arith)) (ap (λ (zs : List Row). x ∷ zs) (without_other n rows kind id a.2 f h))

without_both : (xs ys : List Row) (p : ℕ) → without row_place (xs ++ ys) p ≡ without row_place xs p ++ without row_place ys p
without_both xs ys p = filter-append (λ (row : Row). not (row_place row == p)) xs ys

without_others : (n : ℕ) (shelves : List Shelf) (kind : Kind) (id : ℕ) → AreByKind n shelves → id < 4294967296 → kind_number kind < n → without row_place (all_rows shelves) (place_of kind id) ≡ all_rows shelves
without_others n [] kind id a f h = refl
without_others n (s ∷ ss) kind id a f h =
    without_both s.items (all_rows ss) (place_of kind id)
    ∙ ap (λ (zs : List Row). zs ++ without row_place (all_rows ss) (place_of kind id)) (without_other n s.items kind id a.0 f (omega arith))
    ∙ ap (λ (zs : List Row). s.items ++ zs) (without_others (n + 1) ss kind id a.1 f (omega arith))

pub without_at : (n i : ℕ) (shelves : List Shelf) (new d : Shelf) (kind : Kind) (id : ℕ) → AreByKind n shelves → i < length shelves → n + i ≡ kind_number kind → id < 4294967296
    → new.items ≡ without row_place (get_or shelves i d).items (place_of kind id) → all_rows (set shelves i new) ≡ without row_place (all_rows shelves) (place_of kind id)
without_at n i [] new d kind id a h k f e = absurd (omega arith)
without_at n zero (s ∷ ss) new d kind id a h k f e =
    ap (λ (zs : List Row). zs ++ all_rows ss) e
    ∙ ap (λ (zs : List Row). without row_place s.items (place_of kind id) ++ zs) (sym (without_others (n + 1) ss kind id a.1 f (omega arith)))
    ∙ sym (without_both s.items (all_rows ss) (place_of kind id))
without_at n (suc i) (s ∷ ss) new d kind id a h k f e =
    ap (λ (zs : List Row). s.items ++ zs) (without_at (n + 1) i ss new d kind id a.1 (omega arith) (omega arith) f e)
    ∙ ap (λ (zs : List Row). zs ++ without row_place (all_rows ss) (place_of kind id)) (sym (without_other n s.items kind id a.0 f (omega arith)))
    ∙ sym (without_both s.items (all_rows ss) (place_of kind id))

-- ---- a list whose rows stay

pub same_rows : (i : ℕ) (shelves : List Shelf) (new d : Shelf) → new.items ≡ (get_or shelves i d).items → all_rows (set shelves i new) ≡ all_rows shelves
same_rows i [] new d e = refl
same_rows zero (s ∷ ss) new d e = ap (λ (zs : List Row). zs ++ all_rows ss) e
same_rows (suc i) (s ∷ ss) new d e = ap (λ (zs : List Row). s.items ++ zs) (same_rows i ss new d e)
