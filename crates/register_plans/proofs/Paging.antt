-- A page of rows that are found by their ids, built row by row.
use Rattle.std.proofs.Common.{◌≡◌, ℕ, zero, suc, ◌+◌, ◌<◌, ◌≤◌, ◌&&◌, Bool, true, false, List, [], ◌∷◌, ◌++◌, length, take, Option, Some, None, slice_get, get_or, if◌then◌else◌, refl, ap, sym, ◌∙◌, arith}
use Rattle.std.specs.List.{count_by, cons_option}
use Rattle.std.proofs.lemmas.List.{append-nil, length-take, take_more as taken}
use Rattle.std.proofs.lemmas.List.Sums.{sum_by-cons}
use Rattle.std.proofs.lemmas.List.Elements.{filter_map-append}
use Rattle.ipam_data.specs.RowList.{row_at, Rises}
use Rattle.ipam_data.specs.Pages.{is_paged, one_if, page_of}
use Rattle.ipam_data.proofs.RowLists.{eq_true, eq_false}
use Rattle.ipam_data.proofs.Paging.{met_next, views_next}
use Rattle.register_plans.specs.Pages.{one_of, only_of}
use Rattle.register_plans.specs.Candidates.{rows_of}

module _ {T : Type 0} where
  -- those of the rows of the ids up to an index, with that of the index, if there is one
  module _ (id : T → ℕ) (rows : List T) where
    ids_more : (ids : List ℕ) (k d : ℕ) → k < length ids → rows_of id rows (take (k + 1) ids) ≡ rows_of id rows (take k ids) ++ rows_of id rows (get_or ids k d ∷ [])
    ids_more ids k d l = ap (λ (ns : List ℕ). rows_of id rows ns) (taken ids k d l) ∙ filter_map-append (row_at id rows) (take k ids) (get_or ids k d ∷ [])

    pub met_found : (test : T → Bool) (ids : List ℕ) (k d met new : ℕ) → k < length ids → met ≡ count_by test (rows_of id rows (take k ids)) → new ≡ met + one_of test (row_at id rows (get_or ids k d))
        → new ≡ count_by test (rows_of id rows (take (k + 1) ids))
    met_found test ids k d met new l m e = e ∙ go (row_at id rows (get_or ids k d)) ∙ ap (λ (ys : List T). count_by test ys) (sym (ids_more ids k d l))
      where
        seen : List T
        seen = rows_of id rows (take k ids)

        go : (o : Option T) → met + one_of test o ≡ count_by test (seen ++ cons_option o [])
        go None = (let none : met + 0 ≡ met = omega arith in none ∙ m ∙ ap (λ (ys : List T). count_by test ys) (sym (append-nil seen)))
        go (Some x) = met_next test seen met x m

    pub views_found : {U : Type 0} (view : T → U) (test : T → Bool) (limit offset : ℕ) (ids : List ℕ) (k d met : ℕ) (views new : List U) → k < length ids
        → met ≡ count_by test (rows_of id rows (take k ids)) → views ≡ page_of view test limit offset (rows_of id rows (take k ids)) → new ≡ views ++ only_of view test met limit offset (row_at id rows (get_or ids k d))
        → new ≡ page_of view test limit offset (rows_of id rows (take (k + 1) ids))
    views_found view test limit offset ids k d met views new l m v e = e ∙ go (row_at id rows (get_or ids k d)) ∙ ap (λ (ys : List T). page_of view test limit offset ys) (sym (ids_more ids k d l))
      where
        seen : List T
        seen = rows_of id rows (take k ids)

        go : (o : Option T) → views ++ only_of view test met limit offset o ≡ page_of view test limit offset (seen ++ cons_option o [])
        go None = append-nil views ∙ v ∙ ap (λ (ys : List T). page_of view test limit offset ys) (sym (append-nil seen))
        go (Some x) = views_next view test limit offset seen met x views m v

    -- no more of them meet a test than there are ids
    few_found : (test : T → Bool) (ids : List ℕ) → count_by test (rows_of id rows ids) ≤ length ids
    few_found test [] = omega arith
    few_found test (n ∷ ns) = go (row_at id rows n) (few_found test ns)
      where
        one : (t : Bool) → one_if t ≤ 1
        one true = omega arith
        one false = omega arith

        go : (o : Option T) → count_by test (rows_of id rows ns) ≤ length ns → count_by test (cons_option o (rows_of id rows ns)) ≤ length (n ∷ ns)
        go None h = omega arith
        go (Some x) h = (let more = sum_by-cons (λ (y : T). if test y then 1 else 0) x (rows_of id rows ns) in let least = one (test x) in omega arith)

    pub few_met : (test : T → Bool) (ids : List ℕ) (k met : ℕ) → met ≡ count_by test (rows_of id rows (take k ids)) → met ≤ length ids
    few_met test ids k met m = (let few = few_found test (take k ids) in let less = length-take k ids in omega arith)

  -- where ids rise, the row at an index is found under its id
  above : (id : T → ℕ) (low k : ℕ) (rows : List T) (row : T) → Rises id low rows → slice_get rows k ≡ Some row → low < id row
  above id low k [] row r e = cc
  above id low zero (x ∷ xs) row r e = let s : x ≡ row = cc in let h = r.0 in let q = ap id s in omega arith
  above id low (suc k) (x ∷ xs) row r e = let h = r.0 in let q = above id (id x) k xs row r.1 e in omega arith

  pub at_found : (id : T → ℕ) (low k : ℕ) (rows : List T) (row : T) → Rises id low rows → slice_get rows k ≡ Some row → row_at id rows (id row) ≡ Some row
  at_found id low k [] row r e = cc
  at_found id low zero (x ∷ xs) row r e = let s : x ≡ row = cc in rw (eq_true (id x) (id row) (ap id s)) (ap (λ (y : T). Some y) s)
  at_found id low (suc k) (x ∷ xs) row r e =
      let q = above id (id x) k xs row r.1 e in
      rw (eq_false (id x) (id row) (omega arith)) (at_found id (id x) k xs row r.1 e)
