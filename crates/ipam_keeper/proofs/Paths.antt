-- The tables under each path: where they stand, and what putting some under one path does to the others.
use Rattle.std.proofs.Common.{◌≡◌, ◌≢◌, ℕ, zero, suc, ◌+◌, ◌<◌, ◌≤◌, Bool, true, false, not, cond, List, [], ◌∷◌, ◌++◌, length, get_or, Option, Some, None, Result, Ok, Err, IfOk, refl, ap, sym, ◌∙◌, subst, arith, bytes_eq, ltb, if◌then◌else◌}
use Rattle.std.specs.List.{position, position_or_len, slice_set}
use Rattle.std.proofs.lemmas.Bool.Decides.{nat_tests}
use Rattle.std.proofs.lemmas.Slice.Eq.{bytes_eq-Decides}
use Rattle.std.specs.declared.alloc.AllocError.{AllocError}
use Rattle.stored_tables.specs.declared.tables.Tables.{Tables}
use Rattle.stored_tables.specs.Order.{AreTables, empty_tables}
use Rattle.ipam_keeper.specs.Keeping.{is_under, tables_at, IsReturned}
use Rattle.ipam_keeper.specs.Opener.{AllTables, kept_at, returned}

is_same : (a b : List ℕ) → bytes_eq a b ≡ true → a ≡ b
is_same a b e = (bytes_eq-Decides a b).0 e

same_is : (a b : List ℕ) → a ≡ b → bytes_eq a b ≡ true
same_is a b e = (bytes_eq-Decides a b).1 e

module _ (path : List ℕ) where
  -- an entry of the path is the first at this index
  pub record IsFirstAt (stored : List (List ℕ × Tables)) (k : ℕ) : Type 0 where
    pub within : k < length stored
    pub tables : (d : List ℕ × Tables) → tables_at stored path ≡ (get_or stored k d).1
    pub kept : (tables : Tables) → kept_at stored path tables ≡ slice_set stored k (path, tables)

  pub record IsNowhere (stored : List (List ℕ × Tables)) : Type 0 where
    pub tables : tables_at stored path ≡ empty_tables
    pub kept : (tables : Tables) → kept_at stored path tables ≡ stored ++ (path, tables) ∷ []

  -- the same behind an entry of another path
  behind : (entry : List ℕ × Tables) (rest : List (List ℕ × Tables)) (k : ℕ) → is_under path entry ≡ false → IsFirstAt rest k → IsFirstAt (entry ∷ rest) (suc k)
  behind entry rest k e h = record {
    within = (let w = h.within in omega arith);
    tables = λ d. rw e (h.tables d);
    kept = λ tables. rw e (ap (λ (xs : List (List ℕ × Tables)). entry ∷ xs) (h.kept tables));
  }

  nowhere_behind : (entry : List ℕ × Tables) (rest : List (List ℕ × Tables)) → is_under path entry ≡ false → IsNowhere rest → IsNowhere (entry ∷ rest)
  nowhere_behind entry rest e h = record {
    tables = rw e h.tables;
    kept = λ tables. rw e (ap (λ (xs : List (List ℕ × Tables)). entry ∷ xs) (h.kept tables));
  }

  -- by the index of the first entry that passes the test
  first_at : (stored : List (List ℕ × Tables)) → position_or_len (is_under path) stored < length stored → IsFirstAt stored (position_or_len (is_under path) stored)
  first_at [] l = absurd (omega arith)
  first_at (entry ∷ rest) l = go (is_under path entry) refl l (first_at rest)
    where
      go : (t : Bool) → is_under path entry ≡ t → cond (not t) (1 + position_or_len (is_under path) rest) 0 < suc (length rest)
          → (position_or_len (is_under path) rest < length rest → IsFirstAt rest (position_or_len (is_under path) rest)) → IsFirstAt (entry ∷ rest) (cond (not t) (1 + position_or_len (is_under path) rest) 0)
      go true e l ih = record { within = omega arith; tables = λ d. rw e refl; kept = λ tables. rw e refl }
      go false e l ih = subst (λ (k : ℕ). IsFirstAt (entry ∷ rest) k) (omega arith) (behind entry rest (position_or_len (is_under path) rest) e (ih (omega arith)))

  nowhere_at : (stored : List (List ℕ × Tables)) → length stored ≤ position_or_len (is_under path) stored → IsNowhere stored
  nowhere_at [] l = record { tables = refl; kept = λ tables. refl }
  nowhere_at (entry ∷ rest) l = go (is_under path entry) refl l (nowhere_at rest)
    where
      go : (t : Bool) → is_under path entry ≡ t → suc (length rest) ≤ cond (not t) (1 + position_or_len (is_under path) rest) 0
          → (length rest ≤ position_or_len (is_under path) rest → IsNowhere rest) → IsNowhere (entry ∷ rest)
      go true e l ih = absurd (omega arith)
      go false e l ih = nowhere_behind entry rest e (ih (omega arith))

  -- what a search finds
  found_at : (stored : List (List ℕ × Tables)) (k : ℕ) → cond (ltb (position_or_len (is_under path) stored) (length stored)) (Some (position_or_len (is_under path) stored)) None ≡ Some k → IsFirstAt stored k
  found_at stored k e = go (ltb (position_or_len (is_under path) stored) (length stored)) refl e
    where
      go : (t : Bool) → ltb (position_or_len (is_under path) stored) (length stored) ≡ t → cond t (Some (position_or_len (is_under path) stored)) None ≡ Some k → IsFirstAt stored k
      go true t e = subst (λ (n : ℕ). IsFirstAt stored n) (let q : position_or_len (is_under path) stored ≡ k = cc in q) (first_at stored (grind (arith, nat_tests, t)))
      go false t e = cc

  found_nowhere : (stored : List (List ℕ × Tables)) → cond {A = Option ℕ} (ltb (position_or_len (is_under path) stored) (length stored)) (Some (position_or_len (is_under path) stored)) None ≡ None → IsNowhere stored
  found_nowhere stored e = go (ltb (position_or_len (is_under path) stored) (length stored)) refl e
    where
      go : (t : Bool) → ltb (position_or_len (is_under path) stored) (length stored) ≡ t → cond {A = Option ℕ} t (Some (position_or_len (is_under path) stored)) None ≡ None → IsNowhere stored
      go true t e = cc
      go false t e = nowhere_at stored (grind (arith, nat_tests, t))

  pub at_index : (stored : List (List ℕ × Tables)) (k : ℕ) → Some k ≡ position (is_under path) stored → IsFirstAt stored k
  at_index stored k e = found_at stored k (sym e)

  pub nowhere : (stored : List (List ℕ × Tables)) → None ≡ position (is_under path) stored → IsNowhere stored
  nowhere stored e = found_nowhere stored (sym e)

  -- tables in order at each index
  pub ordered_at : (stored : List (List ℕ × Tables)) (k : ℕ) (d : List ℕ × Tables) → AllTables stored → k < length stored → AreTables (get_or stored k d).1
  ordered_at [] k d a l = absurd (omega arith)
  ordered_at (entry ∷ rest) zero d a l = a.0
  ordered_at (entry ∷ rest) (suc k) d a l = ordered_at rest k d a.1 (omega arith)

  pub ordered_kept : (stored : List (List ℕ × Tables)) (tables : Tables) → AllTables stored → AreTables tables → AllTables (kept_at stored path tables)
  ordered_kept [] tables a t = (t, tt)
  ordered_kept (entry ∷ rest) tables a t = go (is_under path entry) (ordered_kept rest tables a.1 t)
    where
      go : (b : Bool) → AllTables (kept_at rest path tables) → AllTables (if b then (path, tables) ∷ rest else entry ∷ kept_at rest path tables)
      go true ih = (t, a.1)
      go false ih = (a.0, ih)

  -- the tables that are put under a path are those of it
  pub kept_here : (stored : List (List ℕ × Tables)) (tables : Tables) → tables_at (kept_at stored path tables) path ≡ tables
  kept_here [] tables = rw (same_is path path refl) refl
  kept_here (entry ∷ rest) tables = go (is_under path entry) refl (kept_here rest tables)
    where
      go : (b : Bool) → is_under path entry ≡ b → tables_at (kept_at rest path tables) path ≡ tables → tables_at (if b then (path, tables) ∷ rest else entry ∷ kept_at rest path tables) path ≡ tables
      go true e ih = rw (same_is path path refl) refl
      go false e ih = rw e ih

  -- and those of all others are as before
  pub kept_beside : (stored : List (List ℕ × Tables)) (tables : Tables) (other : List ℕ) → other ≢ path → tables_at (kept_at stored path tables) other ≡ tables_at stored other
  kept_beside [] tables other d = go (bytes_eq path other) refl
    where
      go : (b : Bool) → bytes_eq path other ≡ b → (if b then tables else empty_tables) ≡ empty_tables
      go true e = absurd (d (sym (is_same path other e)))
      go false e = refl
  kept_beside (entry ∷ rest) tables other d = go (is_under path entry) refl (is_under other entry) refl (bytes_eq path other) refl (kept_beside rest tables other d)
    where
      go : (b : Bool) → is_under path entry ≡ b → (c : Bool) → is_under other entry ≡ c → (f : Bool) → bytes_eq path other ≡ f → tables_at (kept_at rest path tables) other ≡ tables_at rest other
          → tables_at (if b then (path, tables) ∷ rest else entry ∷ kept_at rest path tables) other ≡ (if c then entry.1 else tables_at rest other)
      go b e c k true g ih = absurd (d (sym (is_same path other g)))
      go true e true k false g ih = absurd (d (sym (is_same entry.0 other k) ∙ is_same entry.0 path e))
      go true e false k false g ih = rw g refl
      go false e true k false g ih = rw k refl
      go false e false k false g ih = rw k ih

-- tables that are the same as some in order are in order
pub same_order : (r : Result Tables AllocError) (tables : Tables) → AreTables tables → IfOk r (λ t. t ≡ tables) → IfOk r (λ t. AreTables t)
same_order (Ok t) tables a e = subst AreTables (sym e) a
same_order (Err fault) tables a e = tt

-- what stands under each path after a keeper came back
pub is_returned : (lent : Option (Option (List ℕ))) (tables : Tables) (stored : List (List ℕ × Tables)) → IsReturned lent (Some tables) (Some stored) (Some (returned stored lent tables))
is_returned None tables stored = refl
is_returned (Some None) tables stored = refl
is_returned (Some (Some path)) tables stored = (kept_here path stored tables, λ other d. kept_beside path stored tables other d)
