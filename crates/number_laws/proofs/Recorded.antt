-- Chosen numbers are recorded as they were chosen, in the words of the law.
use Rattle.std.proofs.Common.{◌≡◌, ℕ, zero, suc, ◌+◌, ◌<◌, ◌≤◌, Bool, Contains, List, [], ◌∷◌, length, map, Option, Some, None, refl, ap, sym, ◌∙◌, subst, arith, inl, inr}
use Rattle.std.specs.List.{slice_get}
use Rattle.std.proofs.lemmas.List.{length-map}
use Rattle.ipam_data.specs.Checks.{first as first_of}
use Rattle.ipam_data.specs.RowList.{row_at}
use Rattle.ipam_data.proofs.Kept.{found_there}
use Rattle.ipam_data.proofs.RowLists.{contains_cases}
use Rattle.ipam_data.proofs.Verdicts.{none_head, none_rest}
use Rattle.number_pools.specs.declared.calls.Chosen.{Chosen}
use Rattle.number_pools.specs.declared.calls.TheConstants.{MOST_CLAIMED}
use Rattle.number_pools.specs.declared.calls.PoolRefusal.{PoolRefusal}
use Rattle.number_pools.specs.declared.calls.PoolRefusal.TheVariants.{Absent}
use Rattle.number_pools.specs.declared.calls.PoolReply.TheVariants.{Claimed, Refused}
use Rattle.number_pools.specs.declared.calls.Quantity.TheVariants.{Items}
use Rattle.number_pools.specs.declared.rows.PoolKind.{PoolKind}
use Rattle.number_pools.specs.declared.rows.NumberRange.{NumberRange}
use Rattle.number_pools.specs.declared.rows.Member.{Member}
use Rattle.number_pools.specs.Rows.{Pools, range_id}
use Rattle.number_pools.specs.Lawful.{IsLawfulPools}
use Rattle.number_pools.specs.Steps.{Check, member_limits, names_of, numbers_of, range_at, record_checks, record_step, recorded, too_many, unfit, unless, with_record}
use Rattle.number_pools.proofs.Fits.{are_open}
use Rattle.number_pools.proofs.Given.{AreOpen}
use Rattle.claim_laws.proofs.Lists.{place_contains}
use Rattle.number_laws.specs.Claims.{IsFreeIn}
use Rattle.number_laws.specs.Records.{RecordedNumbers, RecordsAreChosen}
use Rattle.number_laws.proofs.Least.{found, one_pool}
use Rattle.number_laws.proofs.Made.{made_each, made_new, made_number, made_stored, many_made, row_at_place}

-- item k has number k and name k
at_number : (items : List Chosen) (k : ℕ) (item : Chosen) → slice_get items k ≡ Some item → slice_get (numbers_of items) k ≡ Some item.number
at_number [] k item e = cc
at_number (x ∷ xs) zero item e = (let same : x ≡ item = cc in ap (λ (c : Chosen). Some c.number) same)
at_number (x ∷ xs) (suc k) item e = at_number xs k item e

at_name : (items : List Chosen) (k : ℕ) (item : Chosen) → slice_get items k ≡ Some item → slice_get (names_of items) k ≡ Some item.name
at_name [] k item e = cc
at_name (x ∷ xs) zero item e = (let same : x ≡ item = cc in ap (λ (c : Chosen). Some c.name) same)
at_name (x ∷ xs) (suc k) item e = at_name xs k item e

module _ (s : Pools) (r : NumberRange) (h : IsLawfulPools s) (there : row_at range_id s.ranges.rows r.id ≡ Some r) where
  each_free : (ns : List ℕ) (n : ℕ) → AreOpen s.ranges.rows s.members.rows r ns → Contains ns n → IsFreeIn s r n
  each_free [] n o c = let l = c.1 in absurd (omega arith)
  each_free (m ∷ ms) n o c = elim (contains_cases m n ms c) [
    | inl e ↦ subst (IsFreeIn s r) e (record { low = o.0; high = o.1; unheld = λ x d p. o.2 x d (one_pool s r h there x p) })
    | inr d ↦ each_free ms n o.4 d
  ]

  pub is_recorded : (kind : PoolKind) (id : ℕ) (items : List Chosen) → row_at range_id s.ranges.rows id ≡ Some r → r.kind ≡ kind → r.id ≡ id → unfit s r [] (numbers_of items) ≡ None
      → RecordedNumbers s kind id items (with_record s r items, Claimed (recorded s r items))
  is_recorded kind id items at k own fit =
      let ns = numbers_of items in
      let names = names_of items in
      let many : length names ≡ length ns = length-map items (λ (c : Chosen). c.name) ∙ sym (length-map items (λ (c : Chosen). c.number)) in
      record {
        range = r;
        there = at;
        is_of = k;
        rows = recorded s r items;
        told = refl;
        stored = made_stored s r.id ns names h;
        many = many_made r.id s.members.next ns names (omega arith) ∙ length-map items (λ (c : Chosen). c.name);
        each = λ n item x p q. (
            let w = made_each s r.id ns names h n item.name x (at_name items n item p) q in
            (made_number s r.id ns names h n item.number x (at_number items n item p) q, w.0, w.1 ∙ own));
        free = λ x c. (
            let w = row_at_place s r.id ns names h x c in
            each_free ns x.number (are_open s r [] ns fit).0 (subst (λ (n : ℕ). Contains ns n) (sym w.1.has) (place_contains ns w.0 w.1.number w.1.picked)));
        ids = made_new s r.id ns names h;
      }

of_step : (s : Pools) (kind : PoolKind) (id : ℕ) (items : List Chosen) (o : Option NumberRange) → range_at s.ranges.rows kind id ≡ o → IsLawfulPools s
    → ((why : PoolRefusal) → ¬ ((record_step s id items o).1 ≡ Refused why)) → RecordedNumbers s kind id items (record_step s id items o)
of_step s kind id items None at h fine = absurd (fine (Absent id) refl)
of_step s kind id items (Some r) at h fine = go (first_of (record_checks s r items)) refl fine
  where
    go : (why : Check) → first_of (record_checks s r items) ≡ why → ((w : PoolRefusal) → ¬ ((unless why s (with_record s r items) (Claimed (recorded s r items))).1 ≡ Refused w))
        → RecordedNumbers s kind id items (unless why s (with_record s r items) (Claimed (recorded s r items)))
    go (Some w) e fine = absurd (fine w refl)
    go None e fine =
        let f = found (row_at range_id s.ranges.rows id) kind r at in
        let own : r.id ≡ id = (found_there range_id s.ranges.rows id r f.0).1 in
        let rest = none_rest (too_many Items MOST_CLAIMED (length items)) (unfit s r [] (numbers_of items) ∷ member_limits s (length items)) e in
        is_recorded s r h (ap (row_at range_id s.ranges.rows) own ∙ f.0) kind id items f.0 f.1 own (none_head (unfit s r [] (numbers_of items)) (member_limits s (length items)) rest)

pub records_are_chosen : RecordsAreChosen
records_are_chosen s kind id list items h fine = of_step s kind id items (range_at s.ranges.rows kind id) refl h fine
