-- Rows that come behind others fit.
use Rattle.std.proofs.Common.{◌≡◌, ℕ, ◌<◌, ◌≤◌, ◌==◌, Bool, true, false, cond, nat_lt, List, [], ◌∷◌, ◌++◌, fold, Some, None, IsSome, refl, sym, subst, arith, inl, inr}
use Rattle.std.proofs.lemmas.Bool.Decides.{nat_tests}
use Rattle.ipam_data.specs.declared.vrf.Vrf.{Vrf}
use Rattle.ipam_data.specs.declared.prefix.Prefix.{Prefix}
use Rattle.ipam_data.specs.declared.replies.View.{View}
use Rattle.ipam_data.specs.declared.replies.View.TheVariants.{Vrf as VrfView, Prefix as PrefixView}
use Rattle.ipam_data.specs.Rows.{vrf_id, prefix_id}
use Rattle.ipam_data.specs.RowList.{row_at, row_after, with_row, AllBelow, IsFitting}
use Rattle.ipam_data.specs.State.{State}
use Rattle.ipam_data.specs.Updates.{with_view, IsFit, AreFit, AreKept}
use Rattle.ipam_data.specs.declared.kinds.Kind.{Kind}
use Rattle.ipam_data.proofs.Placed.{below_with}
use Rattle.ipam_data.proofs.RowLists.{still_there, id_below}
use Rattle.ipam_data.proofs.Ties.{fits_append, puts_append}
use Rattle.snapshot_rows.specs.declared.checks.Lasts.{Lasts}
use Rattle.snapshot_rows.specs.Ahead.{Ahead, IsAhead}

module _ {T : Type 0} (id : T → ℕ) where
  -- where no row has the id and none has a greater one, all are below
  pub none_above : (n : ℕ) (rows : List T) → row_at id rows n ≡ None → row_after id rows n ≡ None → AllBelow id n rows
  none_above n [] a b = tt
  none_above n (x ∷ xs) a b = go (id x == n) refl (nat_lt n (id x)) refl a b (none_above n xs)
    where
      go : (t : Bool) → (id x == n) ≡ t → (u : Bool) → nat_lt n (id x) ≡ u → cond t (Some x) (row_at id xs n) ≡ None → cond u (Some x) (row_after id xs n) ≡ None
          → (row_at id xs n ≡ None → row_after id xs n ≡ None → AllBelow id n xs) → (id x < n) × AllBelow id n xs
      go true t u u_is a b ih = absurd (cc a)
      go false t true u a b ih = absurd (cc b)
      go false t false u a b ih = (grind (arith, nat_tests, t, u), ih a b)

  pub starts : (rows : List T) → Ahead id rows rows 0
  starts rows = record { there = λ n s. s; below = λ n low a. a }

  -- a row of an id that was there
  pub stays : (before rows : List T) (last : ℕ) (row : T) → Ahead id before rows last → IsSome (row_at id before (id row)) → IsFitting id rows row × Ahead id before (with_row id rows row) last
  stays before rows last row h there = (
    inl (h.there (id row) there),
    record {
      there = λ n s. still_there id rows row n (h.there n s);
      below = λ n low a. below_with id n rows row (h.below n low a) (id_below id n (id row) before a there);
    },
  )

  -- a row of an id above all
  pub comes : (before rows : List T) (last : ℕ) (row : T) → Ahead id before rows last → row_at id before (id row) ≡ None → row_after id before (id row) ≡ None → last < id row
      → IsFitting id rows row × Ahead id before (with_row id rows row) (id row)
  comes before rows last row h none after above = (
    inr (h.below (id row) above (none_above (id row) before none after)),
    record {
      there = λ n s. still_there id rows row n (h.there n s);
      below = λ n low a. below_with id n rows row (h.below n (omega arith) a) low;
    },
  )

pub start_ahead : (s : State) → IsAhead s s (record { vrf = 0; prefix = 0 })
start_ahead s = record { vrfs = starts vrf_id s.vrfs.rows; prefixes = starts prefix_id s.prefixes.rows }

pub vrf_stays : (before s : State) (l : Lasts) (row : Vrf) → IsAhead before s l → 1 ≤ row.id → row.id < 4294967296 → IsSome (row_at vrf_id before.vrfs.rows row.id)
    → IsFit s (VrfView row) × IsAhead before (with_view s (VrfView row)) l
vrf_stays before s l row h low high there = let k = stays vrf_id before.vrfs.rows s.vrfs.rows l.vrf row h.vrfs there in
    (record { low = low; high = high; place = k.0 }, record { vrfs = k.1; prefixes = h.prefixes })

pub vrf_comes : (before s : State) (l : Lasts) (row : Vrf) → IsAhead before s l → 1 ≤ row.id → row.id < 4294967296 → row_at vrf_id before.vrfs.rows row.id ≡ None → row_after vrf_id before.vrfs.rows row.id ≡ None → l.vrf < row.id
    → IsFit s (VrfView row) × IsAhead before (with_view s (VrfView row)) (record { vrf = row.id; prefix = l.prefix })
vrf_comes before s l row h low high none after above = let k = comes vrf_id before.vrfs.rows s.vrfs.rows l.vrf row h.vrfs none after above in
    (record { low = low; high = high; place = k.0 }, record { vrfs = k.1; prefixes = h.prefixes })

pub prefix_stays : (before s : State) (l : Lasts) (row : Prefix) (depth children : ℕ) → IsAhead before s l → 1 ≤ row.id → row.id < 4294967296 → IsSome (row_at prefix_id before.prefixes.rows row.id)
    → IsFit s (PrefixView row depth children) × IsAhead before (with_view s (PrefixView row depth children)) l
prefix_stays before s l row depth children h low high there = let k = stays prefix_id before.prefixes.rows s.prefixes.rows l.prefix row h.prefixes there in
    (record { low = low; high = high; place = k.0 }, record { vrfs = h.vrfs; prefixes = k.1 })

pub prefix_comes : (before s : State) (l : Lasts) (row : Prefix) (depth children : ℕ) → IsAhead before s l → 1 ≤ row.id → row.id < 4294967296 → row_at prefix_id before.prefixes.rows row.id ≡ None → row_after prefix_id before.prefixes.rows row.id ≡ None → l.prefix < row.id
    → IsFit s (PrefixView row depth children) × IsAhead before (with_view s (PrefixView row depth children)) (record { vrf = l.vrf; prefix = row.id })
prefix_comes before s l row depth children h low high none after above = let k = comes prefix_id before.prefixes.rows s.prefixes.rows l.prefix row h.prefixes none after above in
    (record { low = low; high = high; place = k.0 }, record { vrfs = h.vrfs; prefixes = k.1 })

-- the rows so far fit, and the next one may come
pub record AreAhead (before : State) (views : List View) (lasts : Lasts) : Type 0 where
  pub fit : AreFit before views
  pub ahead : IsAhead before (fold with_view before views) lasts

pub one_more : (before : State) (views : List View) (view : View) (l l' : Lasts) → AreAhead before views l
    → ((s : State) → IsAhead before s l → IsFit s view × IsAhead before (with_view s view) l') → AreAhead before (views ++ view ∷ []) l'
one_more before views view l l' h next = let k = next (fold with_view before views) h.ahead in record {
  fit = fits_append before views (view ∷ []) h.fit (k.0, tt);
  ahead = subst (λ (s : State). IsAhead before s l') (sym (puts_append before views (view ∷ []))) k.1;
}

-- one more id of a u32
pub kept_push : (ids : List (Kind × ℕ)) (x : Kind × ℕ) → AreKept ids → x.1 < 4294967296 → AreKept (ids ++ x ∷ [])
kept_push [] x k h = (h, tt)
kept_push (y ∷ ys) x k h = (k.0, kept_push ys x k.1 h)
