-- The rows of all kinds, one kind after another: what is placed or taken among them is placed or taken among those of its kind.
use Rattle.std.proofs.Common.{subst, ◌≡◌, ◌≢◌, ℕ, ◌+◌, ◌*◌, ◌<◌, ◌≤◌, ◌==◌, nat_lt, Bool, true, false, not, cond, List, [], ◌∷◌, ◌++◌, map, refl, ap, sym, ◌∙◌, arith, if◌then◌else◌, ◌⊎◌, inl, inr}
use Rattle.std.proofs.lemmas.Bool.Decides.{nat_tests}
use Rattle.std.specs.List.{flat_map}
use Rattle.std.proofs.lemmas.List.Elements.{filter-append}
use Rattle.ipam_data.specs.declared.kinds.Kind.{Kind}
use Rattle.ipam_data.specs.declared.kinds.Kind.TheVariants.{Vrfs, Rirs, Roles, Aggregates, Prefixes, Ranges, Addresses}
use Rattle.stored_tables.specs.declared.tables.Row.{Row}
use Rattle.ipam_data.specs.RowList.{without, placed, Rises, AllBelow}
use Rattle.stored_tables.specs.Stored.{kind_number, place_of, row_place, next_place, next_ids, kinds}
use Rattle.ipam_data.proofs.RowLists.{eq_true, eq_false}
use Rattle.ipam_data.proofs.Placed.{AllOver, over_less, below_more, over_append, placed_behind, placed_before, without_below, without_over, lt_false}

-- the kind is one of these
abbrev pub HasKind : Kind → List Kind → Type 0
HasKind kind [] = ⊥
HasKind kind (k ∷ ks) = (k ≡ kind) ⊎ HasKind kind ks

pub all_kinds : (kind : Kind) → HasKind kind kinds
all_kinds Vrfs = inl refl
all_kinds Rirs = inr (inl refl)
all_kinds Roles = inr (inr (inl refl))
all_kinds Aggregates = inr (inr (inr (inl refl)))
all_kinds Prefixes = inr (inr (inr (inr (inl refl))))
all_kinds Ranges = inr (inr (inr (inr (inr (inl refl)))))
all_kinds Addresses = inr (inr (inr (inr (inr (inr (inl refl))))))

pub kinds_rise : Rises kind_number 0 kinds
kinds_rise = (omega arith, (omega arith, (omega arith, (omega arith, (omega arith, (omega arith, (omega arith, tt)))))))

-- rows of the kind of this number
pub record IsSegment (number : ℕ) (rows : List Row) : Type 0 where
  pub over : AllOver row_place (number * 4294967296) rows
  pub below : AllBelow row_place (number * 4294967296 + 4294967296) rows

has_above : (kind : Kind) (low : ℕ) (ks : List Kind) → Rises kind_number low ks → HasKind kind ks → low < kind_number kind
has_above kind low [] r h = absurd h
has_above kind low (k ∷ ks) r (inl e) = let a = r.0 in let b = ap kind_number e in omega arith
has_above kind low (k ∷ ks) r (inr h) = let a = r.0 in let b = has_above kind (kind_number k) ks r.1 h in omega arith

over_flat : (f : Kind → List Row) (n low : ℕ) (ks : List Kind) → ((k : Kind) → IsSegment (kind_number k) (f k)) → Rises kind_number low ks → n ≤ low * 4294967296 + 4294967296 → AllOver row_place n (flat_map f ks)
over_flat f n low [] seg r h = tt
over_flat f n low (k ∷ ks) seg r h =
    let a = r.0 in
    over_append row_place n (f k) (flat_map f ks)
    (over_less row_place (kind_number k * 4294967296) n (f k) (omega arith) (seg k).over)
    (over_flat f n (kind_number k) ks seg r.1 (omega arith))

flat_same : (f g : Kind → List Row) (n low : ℕ) (ks : List Kind) → Rises kind_number low ks → n ≤ low → ((k : Kind) → kind_number k ≢ n → g k ≡ f k) → flat_map f ks ≡ flat_map g ks
flat_same f g n low [] r h same = refl
flat_same f g n low (k ∷ ks) r h same =
    let a = r.0 in
    rw (same k (let d : kind_number k ≢ n = omega arith in d)) (ap (λ (zs : List Row). f k ++ zs) (flat_same f g n (kind_number k) ks r.1 (omega arith) same))

-- a row is placed among those of its kind
pub placed_flat : (f g : Kind → List Row) (row : Row) (low : ℕ) (ks : List Kind) → Rises kind_number low ks → ((k : Kind) → IsSegment (kind_number k) (f k)) → HasKind row.kind ks
    → 1 ≤ row.id → row.id < 4294967296 → g row.kind ≡ placed row_place (f row.kind) row → ((k : Kind) → kind_number k ≢ kind_number row.kind → g k ≡ f k)
    → placed row_place (flat_map f ks) row ≡ flat_map g ks
placed_flat f g row low [] r seg h l u here others = absurd h
placed_flat f g row low (k ∷ ks) r seg (inl e) l u here others =
    let a = ap kind_number e in
    let rest : flat_map f ks ≡ flat_map g ks = flat_same f g (kind_number row.kind) (kind_number k) ks r.1 (omega arith) others in
    let mine : g k ≡ placed row_place (f k) row = subst (λ (j : Kind). g j ≡ placed row_place (f j) row) (sym e) here in
    placed_before row_place (f k) (flat_map f ks) row (over_flat f (row_place row) (kind_number k) ks seg r.1 (omega arith))
    ∙ ap (λ (zs : List Row). zs ++ flat_map f ks) (sym mine) ∙ ap (λ (zs : List Row). g k ++ zs) rest
placed_flat f g row low (k ∷ ks) r seg (inr h) l u here others =
    let a = has_above row.kind (kind_number k) ks r.1 h in
    let d : kind_number k ≢ kind_number row.kind = omega arith in
    placed_behind row_place (f k) (flat_map f ks) row (below_more row_place (kind_number k * 4294967296 + 4294967296) (row_place row) (f k) (omega arith) (seg k).below)
    ∙ ap (λ (zs : List Row). zs ++ placed row_place (flat_map f ks) row) (sym (others k d))
    ∙ ap (λ (zs : List Row). g k ++ zs) (placed_flat f g row (kind_number k) ks r.1 seg h l u here others)

-- a row is taken from those of its kind
pub without_flat : (f g : Kind → List Row) (p : ℕ) (ks : List Kind) → ((k : Kind) → g k ≡ without row_place (f k) p) → without row_place (flat_map f ks) p ≡ flat_map g ks
without_flat f g p [] same = refl
without_flat f g p (k ∷ ks) same =
    filter-append (λ row. not (row_place row == p)) (f k) (flat_map f ks)
    ∙ ap (λ (zs : List Row). zs ++ without row_place (flat_map f ks) p) (sym (same k))
    ∙ ap (λ (zs : List Row). g k ++ zs) (without_flat f g p ks same)

-- a row of another kind takes nothing
pub without_other : (kind k : Kind) (n : ℕ) (rows : List Row) → kind_number k ≢ kind_number kind → n < 4294967296 → IsSegment (kind_number k) rows → without row_place rows (place_of kind n) ≡ rows
without_other kind k n rows d h seg = go (nat_lt (kind_number k) (kind_number kind)) refl
  where
    go : (t : Bool) → nat_lt (kind_number k) (kind_number kind) ≡ t → without row_place rows (place_of kind n) ≡ rows
    go true t =
        let l : kind_number k < kind_number kind = grind (arith, nat_tests, t) in
        without_below row_place (place_of kind n) rows (below_more row_place (kind_number k * 4294967296 + 4294967296) (place_of kind n) rows (omega arith) seg.below)
    go false t =
        let l : kind_number kind ≤ kind_number k = grind (arith, nat_tests, t) in
        without_over row_place (place_of kind n) rows (over_less row_place (kind_number k * 4294967296) (place_of kind n) rows (omega arith) seg.over)

-- a next id is set among those of the kinds
next_same : (m w : Kind → ℕ) (n low : ℕ) (ks : List Kind) → Rises kind_number low ks → n ≤ low → ((k : Kind) → kind_number k ≢ n → w k ≡ m k)
    → next_ids m ks ≡ next_ids w ks
next_same m w n low [] r h same = refl
next_same m w n low (k ∷ ks) r h same =
    let a = r.0 in
    rw (same k (let d : kind_number k ≢ n = omega arith in d)) (ap (λ (zs : List (Kind × ℕ)). (k, m k) ∷ zs) (next_same m w n (kind_number k) ks r.1 (omega arith) same))

pub placed_next : (m w : Kind → ℕ) (next : Kind × ℕ) (low : ℕ) (ks : List Kind) → Rises kind_number low ks → HasKind next.0 ks → w next.0 ≡ next.1
    → ((k : Kind) → kind_number k ≢ kind_number next.0 → w k ≡ m k) → placed next_place (next_ids m ks) next ≡ next_ids w ks
placed_next m w next low [] r h here others = absurd h
placed_next m w next low (k ∷ ks) r (inl e) here others =
    let a = ap kind_number e in
    let mine : next ≡ (k, w k) = subst (λ (j : Kind). next ≡ (j, w j)) (sym e) (ap (λ (n : ℕ). (next.0, n)) (sym here)) in
    rw (eq_true (kind_number k) (kind_number next.0) a)
    (ap (λ (x : Kind × ℕ). x ∷ next_ids m ks) mine ∙ ap (λ (zs : List (Kind × ℕ)). (k, w k) ∷ zs) (next_same m w (kind_number next.0) (kind_number k) ks r.1 (omega arith) others))
placed_next m w next low (k ∷ ks) r (inr h) here others =
    let a = has_above next.0 (kind_number k) ks r.1 h in
    rw (eq_false (kind_number k) (kind_number next.0) (let d : kind_number k ≢ kind_number next.0 = omega arith in d), lt_false (kind_number next.0) (kind_number k) (omega arith), others k (let d : kind_number k ≢ kind_number next.0 = omega arith in d))
    (ap (λ (zs : List (Kind × ℕ)). (k, m k) ∷ zs) (placed_next m w next (kind_number k) ks r.1 h here others))

-- ---- the stored rows of one kind

module _ {T : Type 0} (id : T → ℕ) (stored : T → Row) (number : ℕ) (at : (x : T) → row_place (stored x) ≡ number * 4294967296 + id x) where
  pub segment : (rows : List T) → Rises id 0 rows → AllBelow id 4294967296 rows → IsSegment number (map stored rows)
  segment rows r a = record { over = over 0 rows r; below = below rows a }
    where
      over : (low : ℕ) (rows : List T) → Rises id low rows → AllOver row_place (number * 4294967296) (map stored rows)
      over low [] r = tt
      over low (x ∷ xs) r = (let h = r.0 in let e = at x in omega arith, over (id x) xs r.1)

      below : (rows : List T) → AllBelow id 4294967296 rows → AllBelow row_place (number * 4294967296 + 4294967296) (map stored rows)
      below [] a = tt
      below (x ∷ xs) a = (let h = a.0 in let e = at x in omega arith, below xs a.1)

  pub map_placed : (rows : List T) (row : T) → placed row_place (map stored rows) (stored row) ≡ map stored (placed id rows row)
  map_placed [] row = refl
  map_placed (x ∷ xs) row =
      let same : (row_place (stored x) == row_place (stored row)) ≡ (id x == id row) = rw (at x, at row) (shift_eq (id x) (id row)) in
      let less : nat_lt (row_place (stored row)) (row_place (stored x)) ≡ nat_lt (id row) (id x) = rw (at x, at row) (shift_lt (id row) (id x)) in
      rw (same, less) (go (id x == id row) (nat_lt (id row) (id x)) (map_placed xs row))
    where
      shift_eq : (a b : ℕ) → (number * 4294967296 + a == number * 4294967296 + b) ≡ (a == b)
      shift_eq a b = grind (arith, nat_tests)

      shift_lt : (a b : ℕ) → nat_lt (number * 4294967296 + a) (number * 4294967296 + b) ≡ nat_lt a b
      shift_lt a b = grind (arith, nat_tests)

      go : (t u : Bool) → placed row_place (map stored xs) (stored row) ≡ map stored (placed id xs row)
          → (if t then stored row ∷ map stored xs else (if u then stored row ∷ stored x ∷ map stored xs else stored x ∷ placed row_place (map stored xs) (stored row)))
          ≡ map stored (if t then row ∷ xs else (if u then row ∷ x ∷ xs else x ∷ placed id xs row))
      go true u ih = refl
      go false true ih = refl
      go false false ih = ap (λ (zs : List Row). stored x ∷ zs) ih

  pub map_without : (rows : List T) (n : ℕ) → without row_place (map stored rows) (number * 4294967296 + n) ≡ map stored (without id rows n)
  map_without [] n = refl
  map_without (x ∷ xs) n =
      let same : (row_place (stored x) == number * 4294967296 + n) ≡ (id x == n) = rw (at x) (shift_eq (id x) n) in
      rw same (go (not (id x == n)) (map_without xs n))
    where
      shift_eq : (a b : ℕ) → (number * 4294967296 + a == number * 4294967296 + b) ≡ (a == b)
      shift_eq a b = grind (arith, nat_tests)

      go : (t : Bool) → without row_place (map stored xs) (number * 4294967296 + n) ≡ map stored (without id xs n)
          → cond t (stored x ∷ without row_place (map stored xs) (number * 4294967296 + n)) (without row_place (map stored xs) (number * 4294967296 + n)) ≡ map stored (cond t (x ∷ without id xs n) (without id xs n))
      go true ih = ap (λ (zs : List Row). stored x ∷ zs) ih
      go false ih = ih
