-- What one list becomes, among the lists of all kinds.
use Rattle.std.proofs.Common.{subst, ◌≡◌, ℕ, ◌+◌, ◌<◌, List, [], length, get_or, set, fold, inl, inr, ap, sym, ◌∙◌, arith}
use Rattle.std.proofs.lemmas.Bool.{cases_lt}
use Rattle.std.proofs.lemmas.List.{length-set, get_or-set_same, get_or-set_other}
use Rattle.ipam_data.specs.declared.kinds.Kind.{Kind}
use Rattle.ipam_data.specs.RowList.{placed, without, Rises}
use Rattle.ipam_data.proofs.Placed.{rises_without}
use Rattle.ipam_keeper.proofs.Placing.{rises_placed}
use Rattle.stored_tables.specs.declared.tables.Row.{Row}
use Rattle.stored_tables.specs.declared.tables.Tables.{Tables}
use Rattle.stored_tables.specs.Stored.{kind_number, place_of, row_place}
use Rattle.kind_keeper.specs.Shelves.{Shelf, all_rows, AllOfKind, AreShelves, HasRoom}
use Rattle.kind_keeper.proofs.ByKind.{kind_at, kinds_set, kind_placed, kind_without, placed_at, without_at, same_rows, rises_at, rebuilt}

module _ (shelves : List Shelf) (i : ℕ) (new d : Shelf) (s : AreShelves shelves) where
  within : i < 7 → i < length shelves
  within h = let seven = s.seven in omega arith

  pub ordered_at : i < 7 → Rises row_place 0 (get_or shelves i d).items
  ordered_at h = rises_at 0 i shelves d s.ordered (within h)

  -- with one row more
  pub put_rows_are : (row : Row) → i < 7 → i + 1 ≡ kind_number row.kind → row.id < 4294967296 → new.items ≡ placed row_place (get_or shelves i d).items row → all_rows (set shelves i new) ≡ placed row_place (all_rows shelves) row
  put_rows_are row h k f e = placed_at 1 i shelves new d row s.kinds (within h) (omega arith) f e

  pub put_are_shelves : (row : Row) → i < 7 → i + 1 ≡ kind_number row.kind → row.id < 4294967296 → new.items ≡ placed row_place (get_or shelves i d).items row → AreShelves (set shelves i new)
  put_are_shelves row h k f e =
      let rows = put_rows_are row h k f e in
      let of_kind = kind_placed (1 + i) (get_or shelves i d).items row (kind_at 1 i shelves d s.kinds (within h)) (omega arith) f in
      let low : 0 < row_place row = omega arith in
      record {
        seven = length-set shelves i new ∙ s.seven;
        kinds = kinds_set 1 i shelves new s.kinds (subst (λ (xs : List Row). AllOfKind (1 + i) xs) (sym e) of_kind);
        ordered = subst (λ (xs : List Row). Rises row_place 0 xs) (sym rows) (rises_placed row_place 0 (all_rows shelves) row s.ordered low);
      }

  -- without the row of a kind and id
  pub cut_rows_are : (kind : Kind) (id : ℕ) → i < 7 → i + 1 ≡ kind_number kind → id < 4294967296 → new.items ≡ without row_place (get_or shelves i d).items (place_of kind id)
      → all_rows (set shelves i new) ≡ without row_place (all_rows shelves) (place_of kind id)
  cut_rows_are kind id h k f e = without_at 1 i shelves new d kind id s.kinds (within h) (omega arith) f e

  pub cut_are_shelves : (kind : Kind) (id : ℕ) → i < 7 → i + 1 ≡ kind_number kind → id < 4294967296 → new.items ≡ without row_place (get_or shelves i d).items (place_of kind id) → AreShelves (set shelves i new)
  cut_are_shelves kind id h k f e =
      let rows = cut_rows_are kind id h k f e in
      let of_kind = kind_without (1 + i) (get_or shelves i d).items (place_of kind id) (kind_at 1 i shelves d s.kinds (within h)) in
      record {
        seven = length-set shelves i new ∙ s.seven;
        kinds = kinds_set 1 i shelves new s.kinds (subst (λ (xs : List Row). AllOfKind (1 + i) xs) (sym e) of_kind);
        ordered = subst (λ (xs : List Row). Rises row_place 0 xs) (sym rows) (rises_without row_place 0 (place_of kind id) (all_rows shelves) s.ordered);
      }

  -- with the same rows
  pub kept_are_shelves : i < 7 → new.items ≡ (get_or shelves i d).items → AreShelves (set shelves i new)
  kept_are_shelves h e =
      let rows = same_rows i shelves new d e in
      record {
        seven = length-set shelves i new ∙ s.seven;
        kinds = kinds_set 1 i shelves new s.kinds (subst (λ (xs : List Row). AllOfKind (1 + i) xs) (sym e) (kind_at 1 i shelves d s.kinds (within h)));
        ordered = subst (λ (xs : List Row). Rises row_place 0 xs) (sym rows) s.ordered;
      }

-- one list more has room
pub room_more : (puts : List Row) (shelves : List Shelf) (i : ℕ) (new : Shelf) → i < length shelves → ((k : ℕ) (d : Shelf) → k < i → HasRoom (k + 1) puts (get_or shelves k d)) → HasRoom (i + 1) puts new
    → (k : ℕ) (d : Shelf) → k < i + 1 → HasRoom (k + 1) puts (get_or (set shelves i new) k d)
room_more puts shelves i new h below here k d l = elim (cases_lt k i) [
  | inl less ↦ subst (λ (s : Shelf). HasRoom (k + 1) puts s) (sym (get_or-set_other shelves i k new d (omega arith))) (below k d less)
  | inr more ↦ let same : i ≡ k = omega arith in subst (λ (m : ℕ). HasRoom (m + 1) puts (get_or (set shelves i new) m d)) same (subst (λ (s : Shelf). HasRoom (i + 1) puts s) (sym (get_or-set_same shelves i new d h)) here)
]

-- rows in order, put into empty lists
pub built : (all old puts rows : List Row) → Rises row_place 0 rows → puts ≡ rows → old ≡ [] → all ≡ fold (placed row_place) old puts → all ≡ rows
built all old puts rows r p o e = e ∙ ap (λ (xs : List Row). fold (placed row_place) xs puts) o ∙ ap (λ (xs : List Row). fold (placed row_place) [] xs) p ∙ rebuilt rows r

pub same_tables : (tables copy : Tables) (next : List (Kind × ℕ)) (rows : List Row) → copy ≡ tables → next ≡ copy.next → rows ≡ tables.rows → record { version = copy.version; next = next; rows = rows } ≡ tables
same_tables tables copy next rows e n r = λ i. record { version = (e i).version; next = (n ∙ ap (λ (t : Tables). t.next) e) i; rows = r i }
