-- Whatever is asked of lawful pools, they stay lawful.
use Rattle.std.proofs.Common.{◌≡◌, ◌≢◌, ℕ, ◌+◌, ◌-◌, ◌<◌, ◌≤◌, ◌==◌, ◌&&◌, not, Bool, true, false, is_some, nat_le, List, [], ◌∷◌, length, take, find, Option, Some, None, refl, ap, sym, ◌∙◌, arith, if◌then◌else◌, Contains}
use Rattle.std.proofs.lemmas.Bool.Decides.{nat_tests}
use Rattle.std.proofs.lemmas.List.{length-map}
use Rattle.std.proofs.lemmas.Slice.Eq.{bytes_eq-Decides}
use Rattle.ipam_data.specs.declared.kinds.TheConstants.{LAST_ID}
use Rattle.ipam_data.specs.Checks.{first as first_of, most_spent}
use Rattle.ipam_data.specs.RowList.{is_rival, row_at, with_row, without, least, AllAre, IsApart, last_next}
use Rattle.ipam_data.proofs.RowLists.{eq_true, find_none, id_below}
use Rattle.ipam_data.proofs.Kept.{all-with, all-without, apart-unrivalled, apart-with, apart-without, found_there, none_from_map, put_found}
use Rattle.ipam_data.proofs.Verdicts.{none_head, none_rest, test_holds}
use Rattle.number_pools.specs.declared.rows.PoolKind.{PoolKind}
use Rattle.number_pools.specs.declared.rows.PoolKind.TheVariants.{Asn, Vlan}
use Rattle.number_pools.specs.declared.rows.NumberRange.{NumberRange}
use Rattle.number_pools.specs.declared.rows.Member.{Member}
use Rattle.number_pools.specs.declared.calls.Chosen.{Chosen}
use Rattle.number_pools.specs.declared.calls.Quantity.TheVariants.{Log, Ids}
use Rattle.number_pools.specs.declared.calls.TheConstants.{MOST_RANGES, MOST_MEMBERS, MOST_CLAIMED}
use Rattle.number_pools.specs.declared.calls.Quantity.TheVariants.{Claims, Items, Ranges as RangeCount, Members as MemberCount}
use Rattle.number_pools.specs.declared.calls.PoolRefusal.TheVariants.{NameTaken, InUse, Limit, Bounds}
use Rattle.number_pools.specs.declared.calls.PoolCall.TheVariants as call
use Rattle.number_pools.specs.declared.calls.PoolReply.{PoolReply}
use Rattle.number_pools.specs.declared.calls.PoolReply.TheVariants.{Made, Gone, Claimed, ChangedRange, ChangedMember}
use Rattle.number_pools.specs.Rows.{Pools, member_id, most_of, range_id}
use Rattle.number_pools.specs.Free.{free_numbers, pool_at, pool_found}
use Rattle.number_pools.specs.Lawful.{HaveOneName, HoldOneNumber, IsInBounds, IsInRange, IsLawfulPools}
use Rattle.number_pools.specs.Laws.{EmptyIsLawful, StepsKeepLawful}
use Rattle.number_pools.proofs.Lists.{numbered-appended, numbered-cleared, numbered-replaced, row_at_else, row_at_beside}
use Rattle.number_pools.proofs.Given.{AreMembers, AreFree, all_given, free_from, free_open, some_free}
use Rattle.number_pools.proofs.Fits.{are_open}
use Rattle.number_pools.proofs.Kept.{same_pool}
use Rattle.number_pools.specs.Steps.{Check, edit_member_checks, edit_member_step, edit_range_checks, edit_range_step, edited_member, edited_range, has_one_name, is_cut_off, is_name_of_other, is_too_small, is_within, of_kind_of, one_member_step, one_range_step, with_edited_member, with_edited_range, add_checks, claim_checks, claimed, cut_member_checks, cut_range_checks, cut_range_step, cut_member_step, members_step, available_step, claim_step, record_checks, record_step, recorded, names_of, numbers_of, unfit, with_record, has_name, in_bounds, is_in_use, is_name_taken, is_of_range, is_out_of_bounds, is_short, made_range, member_at, no_ids, no_log, plain_pool_step, range_at, of_kind, same_kind, too_many, unless, with_claim, with_range, without_member, without_range}

-- ---- what it says that no check refuses

-- the log has room
log_fits : (s : Pools) (more : ℕ) → no_log s more ≡ None → s.spent + more ≤ most_spent
log_fits s more e = let t = test_holds (nat_le (s.spent + more) most_spent) (Limit Log most_spent) e in grind (arith, nat_tests)

-- there are ids
ids_fit : (next more : ℕ) → no_ids next more ≡ None → next + more ≤ last_next
ids_fit next more e = let t = test_holds (nat_le (next + more) last_next) (Limit Ids LAST_ID) e in grind (arith, nat_tests)

both : (a b : Bool) → (a && b) ≡ true → (a ≡ true) × (b ≡ true)
both true b e = (refl, e)
both false b e = cc

-- the range is in its bounds
are_bounds : (r : NumberRange) → is_out_of_bounds r.kind r.first r.last ≡ None → IsInBounds r
are_bounds r e =
    let h = both (nat_le 1 r.first && nat_le r.first r.last) (nat_le r.last (most_of r.kind)) (test_holds (in_bounds r.kind r.first r.last) Bounds e) in
    let k = both (nat_le 1 r.first) (nat_le r.first r.last) h.0 in
    let a = k.0 in let b = k.1 in let c = h.1 in
    (grind (arith, nat_tests), grind (arith, nat_tests), grind (arith, nat_tests))

-- a kind is its own
kind_is : (kind : PoolKind) → same_kind kind kind ≡ true
kind_is Asn = refl
kind_is Vlan = refl

-- a range of its kind and name would be found
is_named : (row x : NumberRange) → HaveOneName row x → has_name row.kind row.name x ≡ true
is_named row x k = rw (← k.0, ← k.1, kind_is row.kind) ((bytes_eq-Decides row.name row.name).1 refl)

none_named : (s : Pools) (kind : PoolKind) (name : List ℕ) (x : NumberRange) → is_name_taken s kind name ≡ None → Contains s.ranges.rows x → has_name kind name x ≡ false
none_named s kind name x e c =
    find_none (has_name kind name) s.ranges.rows x (none_from_map range_id (find (has_name kind name) s.ranges.rows) (none_from_map NameTaken (least range_id (has_name kind name) s.ranges.rows) e)) c

-- no member is of the range
none_of_range : (s : Pools) (id : ℕ) (m : Member) → is_in_use s id ≡ None → Contains s.members.rows m → m.range ≢ id
none_of_range s id m e c q =
    let f = find_none (is_of_range id) s.members.rows m (none_from_map member_id (find (is_of_range id) s.members.rows) (none_from_map InUse (least member_id (is_of_range id) s.members.rows) e)) c in
    let t : true ≡ false = sym (eq_true m.range id q) ∙ f in cc

-- ---- members beside other ranges

-- where the ranges of members are found as before, they are in them as before, and in the same pools
module _ (old new : List NumberRange) (members : List Member) (same : (m : Member) → Contains members m → row_at range_id new m.range ≡ row_at range_id old m.range) where
  within_still : AllAre (IsInRange old) members → AllAre (IsInRange new) members
  within_still h m c = let r = h m c in (r.0, same m c ∙ r.1, r.2, r.3)

  one_pool : (m : Member) → Contains members m → pool_at new m ≡ pool_at old m
  one_pool m c = ap (λ (o : Option NumberRange). pool_found o m.range) (same m c)

  numbers_still : IsApart member_id (HoldOneNumber old) members → IsApart member_id (HoldOneNumber new) members
  numbers_still h x y c d k = h x y c d (sym (one_pool x c) ∙ k.0 ∙ one_pool y d, k.1)

-- ---- the changes

-- the range of a member is there, so its id is below the next one
below_next : (s : Pools) (m : Member) → IsLawfulPools s → Contains s.members.rows m → m.range < s.ranges.next
below_next s m h c = let r = h.within m c in id_below range_id s.ranges.next m.range s.ranges.rows h.ranges.below (rw r.1 refl)

range_added : (s : Pools) (row : NumberRange) → IsLawfulPools s → row.id ≡ s.ranges.next → s.ranges.next + 1 ≤ last_next → s.spent + 1 ≤ most_spent → IsInBounds row
    → ((x : NumberRange) → Contains s.ranges.rows x → has_name row.kind row.name x ≡ false) → IsLawfulPools (with_range s row)
range_added s row h id ids log bounds unnamed =
    let same : (m : Member) → Contains s.members.rows m → row_at range_id (with_row range_id s.ranges.rows row) m.range ≡ row_at range_id s.ranges.rows m.range =
    λ m c. row_at_else range_id s.ranges.rows row m.range (λ q. let b = below_next s m h c in absurd (omega arith)) in
    record {
      ranges = numbered-appended range_id s.ranges row h.ranges id ids;
      members = h.members;
      names = apart-with range_id HaveOneName s.ranges.rows row (λ x y k. (sym k.0, sym k.1)) (λ x c k. let b : true ≡ false = sym (is_named row x k) ∙ unnamed x c in cc) h.names;
      bounds = all-with range_id IsInBounds s.ranges.rows row h.bounds bounds;
      within = within_still s.ranges.rows (with_row range_id s.ranges.rows row) s.members.rows same h.within;
      numbers = numbers_still s.ranges.rows (with_row range_id s.ranges.rows row) s.members.rows same h.numbers;
      spent = log;
    }

range_cut : (s : Pools) (id : ℕ) → IsLawfulPools s → s.spent + 1 ≤ most_spent → ((m : Member) → Contains s.members.rows m → m.range ≢ id) → IsLawfulPools (without_range s id)
range_cut s id h log unused =
    let same : (m : Member) → Contains s.members.rows m → row_at range_id (without range_id s.ranges.rows id) m.range ≡ row_at range_id s.ranges.rows m.range =
    λ m c. row_at_beside range_id s.ranges.rows id m.range (unused m c) in
    record {
      ranges = numbered-cleared range_id s.ranges id h.ranges;
      members = h.members;
      names = apart-without range_id HaveOneName s.ranges.rows id h.names;
      bounds = all-without range_id IsInBounds s.ranges.rows id h.bounds;
      within = within_still s.ranges.rows (without range_id s.ranges.rows id) s.members.rows same h.within;
      numbers = numbers_still s.ranges.rows (without range_id s.ranges.rows id) s.members.rows same h.numbers;
      spent = log;
    }

member_cut : (s : Pools) (id : ℕ) → IsLawfulPools s → s.spent + 1 ≤ most_spent → IsLawfulPools (without_member s id)
member_cut s id h log = record {
  ranges = h.ranges;
  members = numbered-cleared member_id s.members id h.members;
  names = h.names;
  bounds = h.bounds;
  within = all-without member_id (IsInRange s.ranges.rows) s.members.rows id h.within;
  numbers = apart-without member_id (HoldOneNumber s.ranges.rows) s.members.rows id h.numbers;
  spent = log;
}

claim_made : (s : Pools) (range : NumberRange) (names : List (List ℕ)) → IsLawfulPools s → row_at range_id s.ranges.rows range.id ≡ Some range → s.members.next + length names ≤ last_next
    → s.spent + length names ≤ most_spent → IsLawfulPools (with_claim s range names)
claim_made s range names h there ids log =
    let members : AreMembers s.ranges.rows s.members = record { numbered = h.members; within = h.within; numbers = h.numbers } in
    let b = h.bounds range (found_there range_id s.ranges.rows range.id range there).0 in
    let order = b.1 in
    let free : AreFree s.ranges.rows s.members.rows range range.first (take (length names) (free_numbers s range)) =
    some_free s.ranges.rows s.members.rows range (length names) range.first (free_numbers s range) (free_from s.ranges.rows s.members.rows range (range.last + 1 - range.first) range.first (omega arith)) in
    let each_free = free_open s.ranges.rows s.members.rows range range.first (take (length names) (free_numbers s range)) (omega arith) free in
    let made = all_given s.ranges.rows s.members range (take (length names) (free_numbers s range)) names members there ids each_free in
    record { ranges = h.ranges; members = made.numbered; names = h.names; bounds = h.bounds; within = made.within; numbers = made.numbers; spent = log }

record_made : (s : Pools) (range : NumberRange) (items : List Chosen) → IsLawfulPools s → row_at range_id s.ranges.rows range.id ≡ Some range → s.members.next + length items ≤ last_next
    → s.spent + length items ≤ most_spent → unfit s range [] (numbers_of items) ≡ None → IsLawfulPools (with_record s range items)
record_made s range items h there ids log fit =
    let members : AreMembers s.ranges.rows s.members = record { numbered = h.members; within = h.within; numbers = h.numbers } in
    let many : length (names_of items) ≡ length items = length-map items (λ (c : Chosen). c.name) in
    let made = all_given s.ranges.rows s.members range (numbers_of items) (names_of items) members there (omega arith) (are_open s range [] (numbers_of items) fit).0 in
    record { ranges = h.ranges; members = made.numbered; names = h.names; bounds = h.bounds; within = made.within; numbers = made.numbers; spent = log }

-- a member of the range that is not cut off holds one of its numbers
not_cut_off : (s : Pools) (row : NumberRange) (m : Member) → is_too_small s row ≡ None → Contains s.members.rows m → m.range ≡ row.id → (row.first ≤ m.number) × (m.number ≤ row.last)
not_cut_off s row m e c own =
    let f = find_none (is_cut_off row) s.members.rows m (none_from_map member_id (find (is_cut_off row) s.members.rows) (none_from_map InUse (least member_id (is_cut_off row) s.members.rows) e)) c in
    let t : (true && not (is_within row m.number)) ≡ false = rw (eq_true m.range row.id own) at f in
    let w = both (nat_le row.first m.number) (nat_le m.number row.last) (not_false (is_within row m.number) t) in
    let a = w.0 in let b = w.1 in
    (grind (arith, nat_tests), grind (arith, nat_tests))
  where
    not_false : (b : Bool) → not b ≡ false → b ≡ true
    not_false true e = refl
    not_false false e = cc

-- a range in the place of one of its kind
module _ (s : Pools) (old row : NumberRange) (h : IsLawfulPools s) (there : row_at range_id s.ranges.rows row.id ≡ Some old) (kind : old.kind ≡ row.kind) where
  range_edited : s.spent + 1 ≤ most_spent → is_name_of_other s row ≡ None → IsInBounds row → is_too_small s row ≡ None → IsLawfulPools (with_edited_range s row)
  range_edited log unrivalled bounds large = record {
    ranges = numbered-replaced range_id s.ranges row h.ranges (rw there refl);
    members = h.members;
    names = apart-unrivalled range_id HaveOneName has_one_name s.ranges.rows row (λ x y k. (sym k.0, sym k.1)) (λ x k. is_named row x k) (none_from_map NameTaken (least range_id (is_rival range_id has_one_name row) s.ranges.rows) unrivalled) h.names;
    bounds = all-with range_id IsInBounds s.ranges.rows row h.bounds bounds;
    within = λ m c. in_range m c (row.id == m.range) refl;
    numbers = λ x y c d k. h.numbers x y c d (sym (same_pool s.ranges.rows old row there kind x) ∙ k.0 ∙ same_pool s.ranges.rows old row there kind y, k.1);
    spent = log;
  }
    where
      in_range : (m : Member) → Contains s.members.rows m → (t : Bool) → (row.id == m.range) ≡ t → IsInRange (with_row range_id s.ranges.rows row) m
      in_range m c true t =
          let q : row.id ≡ m.range = grind (arith, nat_tests, t) in
          let w = not_cut_off s row m large c (sym q) in
          (row, ap (row_at range_id (with_row range_id s.ranges.rows row)) (sym q) ∙ put_found range_id s.ranges.rows row, w.0, w.1)
      in_range m c false t =
          let d : row.id ≢ m.range = (λ q. let b : true ≡ false = sym (eq_true row.id m.range q) ∙ t in cc) in
          let r = h.within m c in
          (r.0, row_at_else range_id s.ranges.rows row m.range d ∙ r.1, r.2, r.3)

-- a member in the place of one of its number
member_edited : (s : Pools) (old row : Member) → IsLawfulPools s → row_at member_id s.members.rows row.id ≡ Some old → old.range ≡ row.range → old.number ≡ row.number → s.spent + 1 ≤ most_spent
    → IsLawfulPools (with_edited_member s row)
member_edited s old row h there range number log =
    let f = found_there member_id s.members.rows row.id old there in
    let pool : pool_at s.ranges.rows old ≡ pool_at s.ranges.rows row = ap (λ (n : ℕ). pool_found (row_at range_id s.ranges.rows n) n) range in
    let w = h.within old f.0 in
    let low = w.2 in let high = w.3 in
    record {
      ranges = h.ranges;
      members = numbered-replaced member_id s.members row h.members (rw there refl);
      names = h.names;
      bounds = h.bounds;
      within = all-with member_id (IsInRange s.ranges.rows) s.members.rows row h.within (w.0, ap (row_at range_id s.ranges.rows) (sym range) ∙ w.1, omega arith, omega arith);
      numbers = apart-with member_id (HoldOneNumber s.ranges.rows) s.members.rows row (λ x y k. (sym k.0, sym k.1)) (λ x c k. h.numbers x old c f.0 (sym k.0 ∙ sym pool, sym k.1 ∙ sym number) ∙ f.1) h.numbers;
      spent = log;
    }

-- ---- the steps

-- the range that was asked for is found under its own id
pub found_range : (s : Pools) (kind : PoolKind) (id : ℕ) (range : NumberRange) → range_at s.ranges.rows kind id ≡ Some range → row_at range_id s.ranges.rows range.id ≡ Some range
found_range s kind id range e = go (row_at range_id s.ranges.rows id) refl e
  where
    go : (o : Option NumberRange) → row_at range_id s.ranges.rows id ≡ o → of_kind kind o ≡ Some range → row_at range_id s.ranges.rows range.id ≡ Some range
    go None o e = cc
    go (Some x) o e = inner (same_kind x.kind kind) e
      where
        inner : (t : Bool) → (if t then Some x else None) ≡ Some range → row_at range_id s.ranges.rows range.id ≡ Some range
        inner true e =
            let is : x ≡ range = cc in
            let i = (found_there range_id s.ranges.rows id x o).1 in
            ap (λ (n : ℕ). row_at range_id s.ranges.rows n) (ap range_id (sym is) ∙ i) ∙ o ∙ ap (λ (r : NumberRange). Some r) is
        inner false e = cc

-- lawful where it is refused, and where it is done
either : (why : Check) (s new : Pools) (reply : PoolReply) → IsLawfulPools s → (why ≡ None → IsLawfulPools new) → IsLawfulPools (unless why s new reply).0
either (Some w) s new reply h k = h
either None s new reply h k = k refl

add_lawful : (s : Pools) (kind : PoolKind) (name : List ℕ) (first last : ℕ) → IsLawfulPools s → IsLawfulPools (plain_pool_step s (call.AddRange kind name first last)).0
add_lawful s kind name first last h =
    let row = made_range s kind name first last in
    let taken = is_name_taken s kind name in
    let out = is_out_of_bounds kind first last in
    let many = too_many RangeCount MOST_RANGES (length s.ranges.rows + 1) in
    let ids = no_ids s.ranges.next 1 in
    let log = no_log s 1 in
    either (first_of (add_checks s kind name first last)) s (with_range s row) (Made row) h (λ e.
    let e1 = none_rest taken (out ∷ many ∷ ids ∷ log ∷ []) e in
    let e2 = none_rest out (many ∷ ids ∷ log ∷ []) e1 in
    let e3 = none_rest many (ids ∷ log ∷ []) e2 in
    let e4 = none_rest ids (log ∷ []) e3 in
    range_added s row h refl (ids_fit s.ranges.next 1 (none_head ids (log ∷ []) e3)) (log_fits s 1 (none_head log [] e4))
    (are_bounds row (none_head out (many ∷ ids ∷ log ∷ []) e1))
    (λ x c. none_named s kind name x (none_head taken (out ∷ many ∷ ids ∷ log ∷ []) e) c))

cut_range_lawful : (s : Pools) (kind : PoolKind) (id : ℕ) → IsLawfulPools s → IsLawfulPools (plain_pool_step s (call.CutRange kind id)).0
cut_range_lawful s kind id h = go (range_at s.ranges.rows kind id)
  where
    go : (o : Option NumberRange) → IsLawfulPools (cut_range_step s id o).0
    go None = h
    go (Some range) =
        let used = is_in_use s id in
        let log = no_log s 1 in
        either (first_of (cut_range_checks s id)) s (without_range s id) Gone h (λ e.
        range_cut s id h (log_fits s 1 (none_head log [] (none_rest used (log ∷ []) e))) (λ m c. none_of_range s id m (none_head used (log ∷ []) e) c))

cut_member_lawful : (s : Pools) (kind : PoolKind) (id : ℕ) → IsLawfulPools s → IsLawfulPools (plain_pool_step s (call.CutMember kind id)).0
cut_member_lawful s kind id h = go (member_at s kind id)
  where
    go : (o : Option Member) → IsLawfulPools (cut_member_step s id o).0
    go None = h
    go (Some m) = either (first_of (cut_member_checks s)) s (without_member s id) Gone h (λ e. member_cut s id h (log_fits s 1 (none_head (no_log s 1) [] e)))

members_lawful : (s : Pools) (kind : PoolKind) (id : ℕ) → IsLawfulPools s → IsLawfulPools (plain_pool_step s (call.Members kind id)).0
members_lawful s kind id h = go (range_at s.ranges.rows kind id)
  where
    go : (o : Option NumberRange) → IsLawfulPools (members_step s id o).0
    go None = h
    go (Some range) = h

available_lawful : (s : Pools) (kind : PoolKind) (id limit : ℕ) → IsLawfulPools s → IsLawfulPools (plain_pool_step s (call.Available kind id limit)).0
available_lawful s kind id limit h = go (range_at s.ranges.rows kind id)
  where
    go : (o : Option NumberRange) → IsLawfulPools (available_step s id limit o).0
    go None = h
    go (Some range) = h

claim_lawful : (s : Pools) (kind : PoolKind) (id : ℕ) (list : Bool) (names : List (List ℕ)) → IsLawfulPools s → IsLawfulPools (plain_pool_step s (call.Claim kind id list names)).0
claim_lawful s kind id list names h = go (range_at s.ranges.rows kind id) refl
  where
    go : (o : Option NumberRange) → range_at s.ranges.rows kind id ≡ o → IsLawfulPools (claim_step s id names o).0
    go None o = h
    go (Some range) o =
        let large = too_many Claims MOST_CLAIMED (length names) in
        let short = is_short (length (free_numbers s range)) (length names) in
        let many = too_many MemberCount MOST_MEMBERS (length s.members.rows + length names) in
        let ids = no_ids s.members.next (length names) in
        let log = no_log s (length names) in
        either (first_of (claim_checks s range (length names))) s (with_claim s range names) (Claimed (claimed s range names)) h (λ e.
        let e1 = none_rest large (short ∷ many ∷ ids ∷ log ∷ []) e in
        let e2 = none_rest short (many ∷ ids ∷ log ∷ []) e1 in
        let e3 = none_rest many (ids ∷ log ∷ []) e2 in
        claim_made s range names h (found_range s kind id range o) (ids_fit s.members.next (length names) (none_head ids (log ∷ []) e3))
        (log_fits s (length names) (none_head log [] (none_rest ids (log ∷ []) e3))))

record_lawful : (s : Pools) (kind : PoolKind) (id : ℕ) (list : Bool) (items : List Chosen) → IsLawfulPools s → IsLawfulPools (plain_pool_step s (call.Record kind id list items)).0
record_lawful s kind id list items h = go (range_at s.ranges.rows kind id) refl
  where
    go : (o : Option NumberRange) → range_at s.ranges.rows kind id ≡ o → IsLawfulPools (record_step s id items o).0
    go None o = h
    go (Some range) o =
        let n = length items in
        let large = too_many Items MOST_CLAIMED n in
        let fit = unfit s range [] (numbers_of items) in
        let many = too_many MemberCount MOST_MEMBERS (length s.members.rows + n) in
        let ids = no_ids s.members.next n in
        let log = no_log s n in
        either (first_of (record_checks s range items)) s (with_record s range items) (Claimed (recorded s range items)) h (λ e.
        let e1 = none_rest large (fit ∷ many ∷ ids ∷ log ∷ []) e in
        let e2 = none_rest fit (many ∷ ids ∷ log ∷ []) e1 in
        let e3 = none_rest many (ids ∷ log ∷ []) e2 in
        record_made s range items h (found_range s kind id range o) (ids_fit s.members.next n (none_head ids (log ∷ []) e3))
        (log_fits s n (none_head log [] (none_rest ids (log ∷ []) e3))) (none_head fit (many ∷ ids ∷ log ∷ []) e1))

-- the member that was asked for has the id
pub member_there : (s : Pools) (kind : PoolKind) (id : ℕ) (m : Member) → member_at s kind id ≡ Some m → row_at member_id s.members.rows id ≡ Some m
member_there s kind id m e = go (row_at member_id s.members.rows id) e
  where
    go : (o : Option Member) → of_kind_of s.ranges.rows kind o ≡ Some m → o ≡ Some m
    go None e = cc
    go (Some x) e = inner (is_some (range_at s.ranges.rows kind x.range)) e
      where
        inner : (t : Bool) → (if t then Some x else None) ≡ Some m → Some x ≡ Some m
        inner true e = e
        inner false e = cc

edit_range_lawful : (s : Pools) (kind : PoolKind) (id : ℕ) (name : Option (List ℕ)) (first last : Option ℕ) → IsLawfulPools s → IsLawfulPools (plain_pool_step s (call.EditRange kind id name first last)).0
edit_range_lawful s kind id name first last h = go (range_at s.ranges.rows kind id) refl
  where
    go : (o : Option NumberRange) → range_at s.ranges.rows kind id ≡ o → IsLawfulPools (edit_range_step s id name first last o).0
    go None o = h
    go (Some range) o =
        let row = edited_range range name first last in
        let other = is_name_of_other s row in
        let out = is_out_of_bounds row.kind row.first row.last in
        let small = is_too_small s row in
        let log = no_log s 1 in
        either (first_of (edit_range_checks s row)) s (with_edited_range s row) (ChangedRange row) h (λ e.
        let e1 = none_rest other (out ∷ small ∷ log ∷ []) e in
        let e2 = none_rest out (small ∷ log ∷ []) e1 in
        let e3 = none_rest small (log ∷ []) e2 in
        range_edited s range row h (found_range s kind id range o) refl (log_fits s 1 (none_head log [] e3)) (none_head other (out ∷ small ∷ log ∷ []) e)
        (are_bounds row (none_head out (small ∷ log ∷ []) e1)) (none_head small (log ∷ []) e2))

edit_member_lawful : (s : Pools) (kind : PoolKind) (id : ℕ) (name : Option (List ℕ)) → IsLawfulPools s → IsLawfulPools (plain_pool_step s (call.EditMember kind id name)).0
edit_member_lawful s kind id name h = go (member_at s kind id) refl
  where
    go : (o : Option Member) → member_at s kind id ≡ o → IsLawfulPools (edit_member_step s id name o).0
    go None o = h
    go (Some m) o =
        let row = edited_member m name in
        let at = member_there s kind id m o in
        let own : m.id ≡ id = (found_there member_id s.members.rows id m at).1 in
        either (first_of (edit_member_checks s)) s (with_edited_member s row) (ChangedMember row) h (λ e.
        member_edited s m row h (ap (row_at member_id s.members.rows) own ∙ at) refl refl (log_fits s 1 (none_head (no_log s 1) [] e)))

one_range_lawful : (s : Pools) (kind : PoolKind) (id : ℕ) → IsLawfulPools s → IsLawfulPools (plain_pool_step s (call.OneRange kind id)).0
one_range_lawful s kind id h = go (range_at s.ranges.rows kind id)
  where
    go : (o : Option NumberRange) → IsLawfulPools (one_range_step s id o).0
    go None = h
    go (Some range) = h

one_member_lawful : (s : Pools) (kind : PoolKind) (id : ℕ) → IsLawfulPools s → IsLawfulPools (plain_pool_step s (call.OneMember kind id)).0
one_member_lawful s kind id h = go (member_at s kind id)
  where
    go : (o : Option Member) → IsLawfulPools (one_member_step s id o).0
    go None = h
    go (Some m) = h

pub steps_keep : StepsKeepLawful
steps_keep s (call.AddRange kind name first last) h = add_lawful s kind name first last h
steps_keep s (call.CutRange kind id) h = cut_range_lawful s kind id h
steps_keep s (call.Ranges kind) h = h
steps_keep s (call.Members kind id) h = members_lawful s kind id h
steps_keep s (call.CutMember kind id) h = cut_member_lawful s kind id h
steps_keep s (call.Available kind id limit) h = available_lawful s kind id limit h
steps_keep s (call.Claim kind id list names) h = claim_lawful s kind id list names h
steps_keep s (call.Record kind id list items) h = record_lawful s kind id list items h
steps_keep s (call.OneRange kind id) h = one_range_lawful s kind id h
steps_keep s (call.OneMember kind id) h = one_member_lawful s kind id h
steps_keep s (call.EditRange kind id name first last) h = edit_range_lawful s kind id name first last h
steps_keep s (call.EditMember kind id name) h = edit_member_lawful s kind id name h
steps_keep s (call.Page kind query) h = h

pub empty : EmptyIsLawful
empty = record {
  ranges = record { ordered = tt; below = tt; next_low = omega arith; next_fits = omega arith };
  members = record { ordered = tt; below = tt; next_low = omega arith; next_fits = omega arith };
  names = λ x y c d k. let h = c.1 in absurd (omega arith);
  bounds = λ x c. let h = c.1 in absurd (omega arith);
  within = λ x c. let h = c.1 in absurd (omega arith);
  numbers = λ x y c d k. let h = c.1 in absurd (omega arith);
  spent = omega arith;
}
