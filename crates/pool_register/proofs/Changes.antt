-- A change of stored pools leads from their tables to those of the pools behind the update.
use Rattle.std.proofs.Common.{◌≡◌, ◌↔◌, ℕ, ◌+◌, ◌==◌, Bool, true, false, not, cond, List, [], ◌∷◌, ◌++◌, append-nil, append_assoc, fold, length, Option, Some, None, option_map, IsSome, refl, ap, sym, ◌∙◌, subst, arith, if◌then◌else◌}
use Rattle.std.proofs.lemmas.Bool.Decides.{nat_tests}
use Rattle.ipam_data.specs.RowList.{AllBelow, Rises, RowList, appended, row_at, with_row, without}
use Rattle.ipam_data.proofs.Placed.{below_more, below_with, over_from_rises, without_over}
use Rattle.ipam_data.proofs.Kept.{none_above}
use Rattle.placed_book.proofs.RowPlaces.{with_row_new}
use Rattle.number_pools.specs.declared.rows.Member.{Member}
use Rattle.number_pools.specs.Rows.{Pools, member_id, range_id}
use Rattle.number_pools.specs.Lawful.{IsLawfulPools}
use Rattle.pool_keeper.specs.declared.tables.PoolTables.{PoolTables}
use Rattle.pool_keeper.specs.declared.tables.PoolChange.{PoolChange}
use Rattle.pool_keeper.specs.Stored.{Tells, changed, tables_of, with_changed, without_first}
use Rattle.pool_register.specs.declared.planned.Update.{Update}
use Rattle.pool_register.specs.declared.planned.Update.TheVariants.{AddRange, CutRange, CutMember, Claim, EditRange, EditMember}
use Rattle.pool_register.specs.Planned.{AreFrom, CanUpdate, change_of, updated}

module _ {T : Type 0} (id : T → ℕ) where
  -- ids that rise: the rows of other ids are those without the first of the id
  first_alone : (low n : ℕ) (xs : List T) → Rises id low xs → without_first id (Some n) xs ≡ without id xs n
  first_alone low n [] r = refl
  first_alone low n (x ∷ xs) r = go (id x == n) refl (first_alone (id x) n xs r.1)
    where
      go : (t : Bool) → (id x == n) ≡ t → without_first id (Some n) xs ≡ without id xs n
          → (if t then xs else x ∷ without_first id (Some n) xs) ≡ cond (not t) (x ∷ without id xs n) (without id xs n)
      go true t ih =
          let e : id x ≡ n = grind (arith, nat_tests, t) in
          sym (without_over id n xs (over_from_rises id n xs (subst (λ (k : ℕ). Rises id k xs) e r.1)))
      go false t ih = ap (λ (ys : List T). x ∷ ys) ih

  -- a row in the place of one of its id
  in_place : (xs : List T) (old row : T) → row_at id xs (id row) ≡ Some old → with_changed id (Some row) xs ≡ with_row id xs row
  in_place [] old row e = cc
  in_place (x ∷ xs) old row e = go (id x == id row) e (in_place xs old row)
    where
      go : (t : Bool) → cond t (Some x) (row_at id xs (id row)) ≡ Some old → (row_at id xs (id row) ≡ Some old → with_changed id (Some row) xs ≡ with_row id xs row)
          → (if t then row ∷ xs else x ∷ with_changed id (Some row) xs) ≡ (if t then row ∷ xs else x ∷ with_row id xs row)
      go true e ih = refl
      go false e ih = ap (λ (ys : List T). x ∷ ys) (ih e)

  -- a row above all stands behind all
  behind : (xs : List T) (row : T) → AllBelow id (id row) xs → with_row id xs row ≡ xs ++ row ∷ []
  behind xs row b = with_row_new id xs row (none_above id (id row) (id row) xs b (omega arith))

-- members one after another
record AreBehind (kept new : RowList Member) (made : List Member) : Type 0 where
  rows : new.rows ≡ kept.rows ++ made
  next : new.next ≡ kept.next + length made

all_behind : (kept : RowList Member) (made : List Member) → AllBelow member_id kept.next kept.rows → AreFrom kept.next made → AreBehind kept (fold (appended member_id) kept made) made
all_behind kept [] b f = record { rows = sym (append-nil kept.rows); next = omega arith }
all_behind kept (m ∷ ms) b f =
    let new = appended member_id kept m in
    let low : AllBelow member_id (member_id m) kept.rows = subst (λ (n : ℕ). AllBelow member_id n kept.rows) (sym f.0) b in
    let put = behind member_id kept.rows m low in
    let above : AllBelow member_id new.next new.rows = below_with member_id (kept.next + 1) kept.rows m (below_more member_id kept.next (kept.next + 1) kept.rows (omega arith) b) (let e = f.0 in omega arith) in
    let rest = all_behind new ms above f.1 in
    let n = rest.next in
    record { rows = rest.rows ∙ ap (λ (xs : List Member). xs ++ ms) put ∙ append_assoc kept.rows (m ∷ []) ms; next = omega arith }

pub changed_is : (s : Pools) (u : Update) → IsLawfulPools s → CanUpdate s u → changed (change_of s u) (tables_of s) ≡ tables_of (updated s u)
changed_is s (AddRange range) h can =
    let put = behind range_id s.ranges.rows range (subst (λ (n : ℕ). AllBelow range_id n s.ranges.rows) (sym can.id) h.ranges.below) in
    λ i. record { next_range = s.ranges.next + 1; next_member = s.members.next; ranges = sym put i; members = append-nil s.members.rows i }
changed_is s (CutRange id) h can =
    λ i. record { next_range = s.ranges.next; next_member = s.members.next; ranges = (append-nil (without_first range_id (Some id) s.ranges.rows) ∙ first_alone range_id 0 id s.ranges.rows h.ranges.ordered) i; members = append-nil s.members.rows i }
changed_is s (CutMember id) h can =
    λ i. record { next_range = s.ranges.next; next_member = s.members.next; ranges = append-nil s.ranges.rows i; members = (append-nil (without_first member_id (Some id) s.members.rows) ∙ first_alone member_id 0 id s.members.rows h.members.ordered) i }
changed_is s (Claim made) h can =
    let put = all_behind s.members made h.members.below can.id in
    λ i. record { next_range = s.ranges.next; next_member = sym put.next i; ranges = append-nil s.ranges.rows i; members = sym put.rows i }
changed_is s (EditRange range) h can =
    λ i. record { next_range = s.ranges.next; next_member = s.members.next; ranges = (append-nil (with_changed range_id (Some range) s.ranges.rows) ∙ in_place range_id s.ranges.rows can.keeps.old range can.keeps.there) i; members = append-nil s.members.rows i }
changed_is s (EditMember m) h can =
    λ i. record { next_range = s.ranges.next; next_member = s.members.next; ranges = append-nil s.ranges.rows i; members = (append-nil (with_changed member_id (Some m) s.members.rows) ∙ in_place member_id s.members.rows can.keeps.old m can.keeps.there) i }

-- where the tables are told, they are told of the new pools
pub told_after : (old inner new : Pools) (u : Update) (change : PoolChange) (told after : Option PoolTables) → inner ≡ old → IsLawfulPools inner → CanUpdate old u → new ≡ updated old u
    → change ≡ change_of old u → after ≡ option_map (changed change) told → Tells told old → Tells after new
told_after old inner new u change told after same h can n e a t =
    let lawful = subst IsLawfulPools same h in
    let said : after ≡ option_map (changed (change_of old u)) told = subst (λ (c : PoolChange). after ≡ option_map (changed c) told) e a in
    subst (λ (s : Pools). Tells after s) (sym n) (subst (λ (o : Option PoolTables). Tells o (updated old u)) (sym said) (go told lawful t))
  where
    go : (told : Option PoolTables) → IsLawfulPools old → Tells told old → Tells (option_map (changed (change_of old u)) told) (updated old u)
    go None h t = tt
    go (Some tables) h t = ap (changed (change_of old u)) t ∙ changed_is old u h can

-- a keeper that tells goes on telling, and one that does not does not begin
some_mapped : {A B : Type 0} (f : A → B) (told : Option A) → IsSome told ↔ IsSome (option_map f told)
some_mapped f None = search
some_mapped f (Some tables) = search

pub goes_on : (change : PoolTables → PoolTables) (told after : Option PoolTables) → after ≡ option_map change told → IsSome told ↔ IsSome after
goes_on change told after a = subst (λ (o : Option PoolTables). IsSome told ↔ IsSome o) (sym a) (some_mapped change told)
