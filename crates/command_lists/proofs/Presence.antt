-- Whether a VRF is there is told by the stored tables: two states of the same tables say the same of it.
use Rattle.std.proofs.Common.{◌≡◌, ℕ, ◌==◌, refl, sym, ◌∙◌, ap, subst, Bool, true, false, ◌&&◌, ◌||◌, List, [], ◌∷◌, ◌++◌, map, Option, Some, None, IsSome, is_some}
use Rattle.std.specs.List.{list_any}
use Rattle.std.proofs.lemmas.List.Folds.{list_any-append}
use Rattle.ipam_data.specs.declared.vrf.Vrf.{Vrf}
use Rattle.ipam_data.specs.RowList.{row_at}
use Rattle.ipam_data.specs.Rows.{vrf_id}
use Rattle.ipam_data.specs.State.{State}
use Rattle.stored_tables.specs.declared.tables.Row.{Row}
use Rattle.stored_tables.specs.declared.tables.Tables.{Tables}
use Rattle.stored_tables.specs.Stored.{tables_of, stored_vrf, stored_rir, stored_role, stored_aggregate, stored_prefix, stored_range, stored_address, kind_number}
use Rattle.register_core.specs.Opened.{IsOpened}
use Rattle.command_words.specs.declared.asked.ListAsked.{ListAsked}
use Rattle.command_words.specs.declared.asked.TableName.{TableName}
use Rattle.command_store.specs.Outside.{Outside}
use Rattle.command_store.specs.Opening.{found_tables}
use Rattle.command_lists.specs.Tables.{is_there}
use Rattle.command_lists.specs.PrefixList.{IsLoadedTable, IsAbsent}

-- the stored row is that of the VRF of this id
abbrev is_row_of : ℕ → Row → Bool
is_row_of n row = (kind_number row.kind == 1) && (row.id == n)

or_none : (b : Bool) → (b || false) ≡ b
or_none true = refl
or_none false = refl

-- among the rows of VRFs it is where the VRF is
among_vrfs : (n : ℕ) (rows : List Vrf) → list_any (is_row_of n) (map stored_vrf rows) ≡ is_some (row_at vrf_id rows n)
among_vrfs n [] = refl
among_vrfs n (row ∷ rows) = go (row.id == n) refl (among_vrfs n rows)
  where
    go : (t : Bool) → (row.id == n) ≡ t → list_any (is_row_of n) (map stored_vrf rows) ≡ is_some (row_at vrf_id rows n)
        → list_any (is_row_of n) (map stored_vrf (row ∷ rows)) ≡ is_some (row_at vrf_id (row ∷ rows) n)
    go true e rest = rw e refl
    go false e rest = rw e rest

-- among those of other kinds it is not
among_others : {T : Type 0} (n : ℕ) (f : T → Row) → ((x : T) → is_row_of n (f x) ≡ false) → (rows : List T) → list_any (is_row_of n) (map f rows) ≡ false
among_others n f none [] = refl
among_others n f none (x ∷ xs) = rw (none x, among_others n f none xs) refl

behind : (p : Row → Bool) (xs ys : List Row) → list_any p ys ≡ false → list_any p (xs ++ ys) ≡ list_any p xs
behind p xs ys none = list_any-append p xs ys ∙ ap (λ (b : Bool). list_any p xs || b) none ∙ or_none (list_any p xs)

none_both : (p : Row → Bool) (xs ys : List Row) → list_any p xs ≡ false → list_any p ys ≡ false → list_any p (xs ++ ys) ≡ false
none_both p xs ys none others = list_any-append p xs ys ∙ ap (λ (b : Bool). b || list_any p ys) none ∙ others

-- so the tables tell of it
told_by_tables : (s : State) (n : ℕ) → list_any (is_row_of n) (tables_of s).rows ≡ is_some (row_at vrf_id s.vrfs.rows n)
told_by_tables s n =
    let rirs = map stored_rir s.rirs.rows in
    let roles = map stored_role s.roles.rows in
    let aggregates = map stored_aggregate s.aggregates.rows in
    let prefixes = map stored_prefix s.prefixes.rows in
    let ranges = map stored_range s.ranges.rows in
    let addresses = map stored_address s.addresses.rows in
    let p = is_row_of n in
    behind p (map stored_vrf s.vrfs.rows) (rirs ++ (roles ++ (aggregates ++ (prefixes ++ (ranges ++ (addresses ++ []))))))
    (none_both p rirs (roles ++ (aggregates ++ (prefixes ++ (ranges ++ (addresses ++ []))))) (among_others n stored_rir (λ x. refl) s.rirs.rows)
    (none_both p roles (aggregates ++ (prefixes ++ (ranges ++ (addresses ++ [])))) (among_others n stored_role (λ x. refl) s.roles.rows)
    (none_both p aggregates (prefixes ++ (ranges ++ (addresses ++ []))) (among_others n stored_aggregate (λ x. refl) s.aggregates.rows)
    (none_both p prefixes (ranges ++ (addresses ++ [])) (among_others n stored_prefix (λ x. refl) s.prefixes.rows)
    (none_both p ranges (addresses ++ []) (among_others n stored_range (λ x. refl) s.ranges.rows)
    (none_both p addresses [] (among_others n stored_address (λ x. refl) s.addresses.rows) refl))))))
    ∙ among_vrfs n s.vrfs.rows

-- two states that stand for the told tables have the same tables
same_tables : (told : Option Tables) (unique : Bool) (s t : State) → IsSome told → IsOpened told unique s → IsOpened told unique t → tables_of s ≡ tables_of t
same_tables None unique s t some h k = absurd (cc)
same_tables (Some tables) unique s t some (one, told, opening) (other, told_too, opening_too) = opening.tables_are ∙ sym told ∙ told_too ∙ sym opening_too.tables_are

-- where the table is there in one of them, no other lacks its VRF
pub not_absent : (asked : ListAsked) (old : Outside) (state : State) → IsLoadedTable asked old state → IsSome (found_tables asked.store old) → (n : ℕ) → ¬ IsAbsent asked old n
not_absent asked old state table_is some n (other, loaded, (is, none)) =
    let same = same_tables (found_tables asked.store old) asked.store.global_unique state other some table_is.loaded loaded in
    let here : is_some (row_at vrf_id state.vrfs.rows n) ≡ true = subst (λ (name : TableName). is_there state name ≡ true) is table_is.there in
    let there : is_some (row_at vrf_id other.vrfs.rows n) ≡ true =
    sym (told_by_tables other n) ∙ ap (λ (tables : Tables). list_any (is_row_of n) tables.rows) (sym same) ∙ told_by_tables state n ∙ here in
    let no : is_some (row_at vrf_id other.vrfs.rows n) ≡ false = ap is_some none in
    cc
