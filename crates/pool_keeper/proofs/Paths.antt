-- The tables under each path: where they stand, and what putting some under one path does to the others.
use Rattle.std.proofs.Common.{◌≡◌, ◌≢◌, ℕ, suc, ◌+◌, ◌<◌, ◌≤◌, Bool, true, false, not, cond, List, [], ◌∷◌, ◌++◌, length, get_or, Option, Some, None, refl, ap, sym, ◌∙◌, subst, arith, bytes_eq, ltb, if◌then◌else◌}
use Rattle.std.specs.List.{position, position_or_len, slice_set}
use Rattle.std.proofs.lemmas.Bool.Decides.{nat_tests}
use Rattle.std.proofs.lemmas.Slice.Eq.{bytes_eq-Decides}
use Rattle.pool_keeper.specs.declared.tables.PoolTables.{PoolTables}
use Rattle.pool_keeper.specs.Stored.{empty_tables}
use Rattle.pool_keeper.specs.Keeping.{is_under, tables_at, IsReturned}
use Rattle.pool_keeper.specs.Opener.{kept_at, returned}

is_same : (a b : List ℕ) → bytes_eq a b ≡ true → a ≡ b
is_same a b e = (bytes_eq-Decides a b).0 e

same_is : (a b : List ℕ) → a ≡ b → bytes_eq a b ≡ true
same_is a b e = (bytes_eq-Decides a b).1 e

module _ (path : List ℕ) where
  -- an entry of the path is the first at this index
  pub record IsFirstAt (stored : List (List ℕ × PoolTables)) (k : ℕ) : Type 0 where
    pub within : k < length stored
    pub tables : (d : List ℕ × PoolTables) → tables_at stored path ≡ (get_or stored k d).1
    pub kept : (tables : PoolTables) → kept_at stored path tables ≡ slice_set stored k (path, tables)

  pub record IsNowhere (stored : List (List ℕ × PoolTables)) : Type 0 where
    pub tables : tables_at stored path ≡ empty_tables
    pub kept : (tables : PoolTables) → kept_at stored path tables ≡ stored ++ (path, tables) ∷ []

  -- the same behind an entry of another path
  behind : (entry : List ℕ × PoolTables) (rest : List (List ℕ × PoolTables)) (k : ℕ) → is_under path entry ≡ false → IsFirstAt rest k → IsFirstAt (entry ∷ rest) (suc k)
  behind entry rest k e h = record {
    within = (let w = h.within in omega arith);
    tables = λ d. rw e (h.tables d);
    kept = λ tables. rw e (ap (λ (xs : List (List ℕ × PoolTables)). entry ∷ xs) (h.kept tables));
  }

  nowhere_behind : (entry : List ℕ × PoolTables) (rest : List (List ℕ × PoolTables)) → is_under path entry ≡ false → IsNowhere rest → IsNowhere (entry ∷ rest)
  nowhere_behind entry rest e h = record {
    tables = rw e h.tables;
    kept = λ tables. rw e (ap (λ (xs : List (List ℕ × PoolTables)). entry ∷ xs) (h.kept tables));
  }

  -- by the index of the first entry that passes the test
  first_at : (stored : List (List ℕ × PoolTables)) → position_or_len (is_under path) stored < length stored → IsFirstAt stored (position_or_len (is_under path) stored)
  first_at [] l = absurd (omega arith)
  first_at (entry ∷ rest) l = go (is_under path entry) refl l (first_at rest)
    where
      go : (t : Bool) → is_under path entry ≡ t → cond (not t) (1 + position_or_len (is_under path) rest) 0 < suc (length rest)
          → (position_or_len (is_under path) rest < length rest → IsFirstAt rest (position_or_len (is_under path) rest)) → IsFirstAt (entry ∷ rest) (cond (not t) (1 + position_or_len (is_under path) rest) 0)
      go true e l ih = record { within = omega arith; tables = λ d. rw e refl; kept = λ tables. rw e refl }
      go false e l ih = subst (λ (k : ℕ). IsFirstAt (entry ∷ rest) k) (omega arith) (behind entry rest (position_or_len (is_under path) rest) e (ih (omega arith)))

  nowhere_at : (stored : List (List ℕ × PoolTables)) → length stored ≤ position_or_len (is_under path) stored → IsNowhere stored
  nowhere_at [] l = record { tables = refl; kept = λ tables. refl }
  nowhere_at (entry ∷ rest) l = go (is_under path entry) refl l (nowhere_at rest)
    where
      go : (t : Bool) → is_under path entry ≡ t → suc (length rest) ≤ cond (not t) (1 + position_or_len (is_under path) rest) 0
          → (length rest ≤ position_or_len (is_under path) rest → IsNowhere rest) → IsNowhere (entry ∷ rest)
      go true e l ih = absurd (omega arith)
      go false e l ih = nowhere_behind entry rest e (ih (omega arith))

  -- what a search finds
  found_at : (stored : List (List ℕ × PoolTables)) (k : ℕ) → cond (ltb (position_or_len (is_under path) stored) (length stored)) (Some (position_or_len (is_under path) stored)) None ≡ Some k → IsFirstAt stored k
  found_at stored k e = go (ltb (position_or_len (is_under path) stored) (length stored)) refl e
    where
      go : (t : Bool) → ltb (position_or_len (is_under path) stored) (length stored) ≡ t → cond t (Some (position_or_len (is_under path) stored)) None ≡ Some k → IsFirstAt stored k
      go true t e = subst (λ (n : ℕ). IsFirstAt stored n) (let q : position_or_len (is_under path) stored ≡ k = cc in q) (first_at stored (grind (arith, nat_tests, t)))
      go false t e = cc

  found_nowhere : (stored : List (List ℕ × PoolTables)) → cond {A = Option ℕ} (ltb (position_or_len (is_under path) stored) (length stored)) (Some (position_or_len (is_under path) stored)) None ≡ None → IsNowhere stored
  found_nowhere stored e = go (ltb (position_or_len (is_under path) stored) (length stored)) refl e
    where
      go : (t : Bool) → ltb (position_or_len (is_under path) stored) (length stored) ≡ t → cond {A = Option ℕ} t (Some (position_or_len (is_under path) stored)) None ≡ None → IsNowhere stored
      go true t e = cc
      go false t e = nowhere_at stored (grind (arith, nat_tests, t))

  pub at_index : (stored : List (List ℕ × PoolTables)) (k : ℕ) → Some k ≡ position (is_under path) stored → IsFirstAt stored k
  at_index stored k e = found_at stored k (sym e)

  pub nowhere : (stored : List (List ℕ × PoolTables)) → None ≡ position (is_under path) stored → IsNowhere stored
  nowhere stored e = found_nowhere stored (sym e)

  -- the tables that are put under a path are those of it
  pub kept_here : (stored : List (List ℕ × PoolTables)) (tables : PoolTables) → tables_at (kept_at stored path tables) path ≡ tables
  kept_here [] tables = rw (same_is path path refl) refl
  kept_here (entry ∷ rest) tables = go (is_under path entry) refl (kept_here rest tables)
    where
      go : (b : Bool) → is_under path entry ≡ b → tables_at (kept_at rest path tables) path ≡ tables → tables_at (if b then (path, tables) ∷ rest else entry ∷ kept_at rest path tables) path ≡ tables
      go true e ih = rw (same_is path path refl) refl
      go false e ih = rw e ih

  -- and those of all others are as before
  pub kept_beside : (stored : List (List ℕ × PoolTables)) (tables : PoolTables) (other : List ℕ) → other ≢ path → tables_at (kept_at stored path tables) other ≡ tables_at stored other
  kept_beside [] tables other d = go (bytes_eq path other) refl
    where
      go : (b : Bool) → bytes_eq path other ≡ b → (if b then tables else empty_tables) ≡ empty_tables
      go true e = absurd (d (sym (is_same path other e)))
      go false e = refl
  kept_beside (entry ∷ rest) tables other d = go (is_under path entry) refl (is_under other entry) refl (bytes_eq path other) refl (kept_beside rest tables other d)
    where
      go : (b : Bool) → is_under path entry ≡ b → (c : Bool) → is_under other entry ≡ c → (f : Bool) → bytes_eq path other ≡ f → tables_at (kept_at rest path tables) other ≡ tables_at rest other
          → tables_at (if b then (path, tables) ∷ rest else entry ∷ kept_at rest path tables) other ≡ (if c then entry.1 else tables_at rest other)
      go b e c k true g ih = absurd (d (sym (is_same path other g)))
      go true e true k false g ih = absurd (d (sym (is_same entry.0 other k) ∙ is_same entry.0 path e))
      go true e false k false g ih = rw g refl
      go false e true k false g ih = rw k refl
      go false e false k false g ih = rw k ih

-- what stands under each path after a keeper came back
pub is_returned : (lent : Option (Option (List ℕ))) (tables : PoolTables) (stored : List (List ℕ × PoolTables)) → IsReturned lent (Some tables) (Some stored) (Some (returned stored lent tables))
is_returned None tables stored = refl
is_returned (Some None) tables stored = refl
is_returned (Some (Some path)) tables stored = (kept_here path stored tables, λ other d. kept_beside path stored tables other d)
