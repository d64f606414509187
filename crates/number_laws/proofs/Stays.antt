-- A member and its range stay over each call but one that gives the number back.
use Rattle.std.proofs.Common.{◌≡◌, ◌≢◌, ◌⊎◌, ℕ, ◌+◌, ◌<◌, ◌==◌, Bool, true, false, Contains, List, [], ◌∷◌, length, find, fold, take, Option, Some, None, refl, ap, sym, ◌∙◌, arith, inl, inr}
use Rattle.std.proofs.lemmas.Bool.Decides.{nat_tests}
use Rattle.ipam_data.specs.Checks.{first as first_of}
use Rattle.ipam_data.specs.RowList.{RowList, appended, row_at, with_row, least}
use Rattle.ipam_data.proofs.RowLists.{eq_false, eq_true, find_none, id_below}
use Rattle.ipam_data.proofs.Kept.{found_there, none_from_map, put_found}
use Rattle.ipam_data.proofs.Verdicts.{none_head}
use Rattle.number_pools.specs.declared.calls.Chosen.{Chosen}
use Rattle.number_pools.specs.declared.calls.PoolCall.{PoolCall}
use Rattle.number_pools.specs.declared.calls.PoolCall.TheVariants as call
use Rattle.number_pools.specs.declared.calls.PoolRefusal.TheVariants.{InUse}
use Rattle.number_pools.specs.declared.calls.PoolReply.{PoolReply}
use Rattle.number_pools.specs.declared.calls.PoolReply.TheVariants.{Made, Gone, Claimed, ChangedRange, ChangedMember}
use Rattle.number_pools.specs.declared.rows.PoolKind.{PoolKind}
use Rattle.number_pools.specs.declared.rows.NumberRange.{NumberRange}
use Rattle.number_pools.specs.declared.rows.Member.{Member}
use Rattle.number_pools.specs.Rows.{Pools, member_id, range_id}
use Rattle.number_pools.specs.Free.{free_numbers}
use Rattle.number_pools.specs.Lawful.{IsLawfulPools}
use Rattle.number_pools.specs.Steps.{Check, edit_member_checks, edit_member_step, edit_range_checks, edit_range_step, edited_member, edited_range, one_member_step, one_range_step, with_edited_member, with_edited_range, add_checks, claim_checks, claimed, cut_member_checks, cut_range_checks, cut_range_step, cut_member_step, members_step, available_step, claim_step, is_in_use, is_of_range, made_members, made_range, member_at, names_of, no_log, numbers_of, plain_pool_step, range_at, record_checks, record_step, recorded, unless, with_claim, with_range, with_record, without_member, without_range}
use Rattle.number_pools.proofs.Lists.{one_of_id, row_at_else, row_at_beside}
use Rattle.number_pools.proofs.StepLaws.{found_range, member_there}
use Rattle.claim_laws.proofs.Withstand.{with_stays, without_stays, id_under}

-- the same member, but for its name
pub record IsSame (x y : Member) : Type 0 where
  pub id : y.id ≡ x.id
  pub range : y.range ≡ x.range
  pub number : y.number ≡ x.number

module _ (x : Member) (r : NumberRange) where
  -- the member is there, whatever its name, and a range of its id and kind
  pub record IsThere (s : Pools) : Type 0 where
    pub now : Member
    pub same : IsSame x now
    pub member : Contains s.members.rows now
    pub row : NumberRange
    pub range : row_at range_id s.ranges.rows x.range ≡ Some row
    pub kind : row.kind ≡ r.kind

  -- the call gave the member's number back
  pub record GivesBack (s : Pools) (asked : PoolCall) : Type 0 where
    pub kind : PoolKind
    pub is : asked ≡ call.CutMember kind x.id
    pub gone : (plain_pool_step s asked).1 ≡ Gone

  -- where a check refuses the call nothing changes
  either : (why : Check) (s new : Pools) (reply : PoolReply) → IsThere s → (why ≡ None → IsThere new) → IsThere (unless why s new reply).0
  either (Some w) s new reply h k = h
  either None s new reply h k = k refl

  range_added : (s : Pools) (row : NumberRange) → IsLawfulPools s → row.id ≡ s.ranges.next → IsThere s → IsThere (with_range s row)
  range_added s row h id p =
      let below = id_below range_id s.ranges.next x.range s.ranges.rows h.ranges.below (rw p.range refl) in
      record { now = p.now; same = p.same; member = p.member; row = p.row; range = row_at_else range_id s.ranges.rows row x.range (λ q. omega arith) ∙ p.range; kind = p.kind }

  range_cut : (s : Pools) (id : ℕ) (found : Option NumberRange) → IsThere s → IsThere (cut_range_step s id found).0
  range_cut s id None p = p
  range_cut s id (Some range) p = either (first_of (cut_range_checks s id)) s (without_range s id) Gone p (λ e.
      let none = none_from_map member_id (find (is_of_range id) s.members.rows) (none_from_map InUse (least member_id (is_of_range id) s.members.rows) (none_head (is_in_use s id) (no_log s 1 ∷ []) e)) in
      let f = find_none (is_of_range id) s.members.rows p.now none p.member in
      let other : x.range ≢ id = (λ q. let t : true ≡ false = sym (eq_true p.now.range id (p.same.range ∙ q)) ∙ f in cc) in
      record { now = p.now; same = p.same; member = p.member; row = p.row; range = row_at_beside range_id s.ranges.rows id x.range other ∙ p.range; kind = p.kind })

  claim_stays : (y : Member) (kept : RowList Member) (n range : ℕ) (ns : List ℕ) (names : List (List ℕ)) → y.id < n → Contains kept.rows y → Contains (fold (appended member_id) kept (made_members n range ns names)).rows y
  claim_stays y kept n range [] names l c = c
  claim_stays y kept n range (m ∷ ms) [] l c = c
  claim_stays y kept n range (m ∷ ms) (name ∷ names) l c =
      let row : Member = record { id = n; range = range; number = m; name = name } in
      claim_stays y (appended member_id kept row) (n + 1) range ms names (omega arith) (with_stays member_id kept.rows row y c (eq_false n y.id (λ q. omega arith)))

  claim_made : (s : Pools) (id : ℕ) (names : List (List ℕ)) (found : Option NumberRange) → IsLawfulPools s → IsThere s → IsThere (claim_step s id names found).0
  claim_made s id names None h p = p
  claim_made s id names (Some range) h p = either (first_of (claim_checks s range (length names))) s (with_claim s range names) (Claimed (claimed s range names)) p (λ e. record {
    now = p.now;
    same = p.same;
    member = claim_stays p.now s.members s.members.next range.id (take (length names) (free_numbers s range)) names (id_under member_id s.members.next s.members.rows p.now h.members.below p.member) p.member;
    row = p.row;
    range = p.range;
    kind = p.kind;
  })

  record_made : (s : Pools) (id : ℕ) (items : List Chosen) (found : Option NumberRange) → IsLawfulPools s → IsThere s → IsThere (record_step s id items found).0
  record_made s id items None h p = p
  record_made s id items (Some range) h p = either (first_of (record_checks s range items)) s (with_record s range items) (Claimed (recorded s range items)) p (λ e. record {
    now = p.now;
    same = p.same;
    member = claim_stays p.now s.members s.members.next range.id (numbers_of items) (names_of items) (id_under member_id s.members.next s.members.rows p.now h.members.below p.member) p.member;
    row = p.row;
    range = p.range;
    kind = p.kind;
  })

  members_stay : (s : Pools) (id : ℕ) (found : Option NumberRange) → IsThere s → IsThere (members_step s id found).0
  members_stay s id None p = p
  members_stay s id (Some range) p = p

  available_stays : (s : Pools) (id limit : ℕ) (found : Option NumberRange) → IsThere s → IsThere (available_step s id limit found).0
  available_stays s id limit None p = p
  available_stays s id limit (Some range) p = p

  one_range_stays : (s : Pools) (id : ℕ) (found : Option NumberRange) → IsThere s → IsThere (one_range_step s id found).0
  one_range_stays s id None p = p
  one_range_stays s id (Some range) p = p

  one_member_stays : (s : Pools) (id : ℕ) (found : Option Member) → IsThere s → IsThere (one_member_step s id found).0
  one_member_stays s id None p = p
  one_member_stays s id (Some m) p = p

  -- a range that is edited keeps its kind
  range_put : (s : Pools) (old new : NumberRange) → row_at range_id s.ranges.rows new.id ≡ Some old → old.kind ≡ new.kind → IsThere s → IsThere (with_edited_range s new)
  range_put s old new there kind p = go (new.id == x.range) refl
    where
      go : (t : Bool) → (new.id == x.range) ≡ t → IsThere (with_edited_range s new)
      go true t =
          let q : new.id ≡ x.range = grind (arith, nat_tests, t) in
          let was : Some old ≡ Some p.row = sym there ∙ ap (row_at range_id s.ranges.rows) q ∙ p.range in
          let is : old ≡ p.row = cc in
          record {
            now = p.now;
            same = p.same;
            member = p.member;
            row = new;
            range = ap (row_at range_id (with_row range_id s.ranges.rows new)) (sym q) ∙ put_found range_id s.ranges.rows new;
            kind = sym kind ∙ ap (λ (n : NumberRange). n.kind) is ∙ p.kind;
          }
      go false t = record {
        now = p.now;
        same = p.same;
        member = p.member;
        row = p.row;
        range = row_at_else range_id s.ranges.rows new x.range (λ q. let b : true ≡ false = sym (eq_true new.id x.range q) ∙ t in cc) ∙ p.range;
        kind = p.kind;
      }

  range_edited : (s : Pools) (kind : PoolKind) (id : ℕ) (name : Option (List ℕ)) (first last : Option ℕ) (found : Option NumberRange) → range_at s.ranges.rows kind id ≡ found → IsThere s
      → IsThere (edit_range_step s id name first last found).0
  range_edited s kind id name first last None o p = p
  range_edited s kind id name first last (Some range) o p =
      let new = edited_range range name first last in
      either (first_of (edit_range_checks s new)) s (with_edited_range s new) (ChangedRange new) p (λ e. range_put s range new (found_range s kind id range o) refl p)

  -- a member that is edited keeps its number and its range
  member_put : (s : Pools) (old new : Member) → IsLawfulPools s → row_at member_id s.members.rows new.id ≡ Some old → IsSame old new → IsThere s → IsThere (with_edited_member s new)
  member_put s old new h there same p = go (new.id == p.now.id) refl
    where
      go : (t : Bool) → (new.id == p.now.id) ≡ t → IsThere (with_edited_member s new)
      go true t =
          let q : new.id ≡ p.now.id = grind (arith, nat_tests, t) in
          let f = found_there member_id s.members.rows new.id old there in
          let is : old ≡ p.now = one_of_id member_id 0 s.members.rows old p.now h.members.ordered f.0 p.member (f.1 ∙ q) in
          record {
            now = new;
            same = record {
              id = q ∙ p.same.id;
              range = same.range ∙ ap (λ (m : Member). m.range) is ∙ p.same.range;
              number = same.number ∙ ap (λ (m : Member). m.number) is ∙ p.same.number;
            };
            member = (found_there member_id (with_row member_id s.members.rows new) new.id new (put_found member_id s.members.rows new)).0;
            row = p.row;
            range = p.range;
            kind = p.kind;
          }
      go false t = record {
        now = p.now;
        same = p.same;
        member = with_stays member_id s.members.rows new p.now p.member t;
        row = p.row;
        range = p.range;
        kind = p.kind;
      }

  member_edited : (s : Pools) (kind : PoolKind) (id : ℕ) (name : Option (List ℕ)) (found : Option Member) → member_at s kind id ≡ found → IsLawfulPools s → IsThere s
      → IsThere (edit_member_step s id name found).0
  member_edited s kind id name None o h p = p
  member_edited s kind id name (Some m) o h p =
      let new = edited_member m name in
      let at = member_there s kind id m o in
      let own : m.id ≡ id = (found_there member_id s.members.rows id m at).1 in
      either (first_of (edit_member_checks s)) s (with_edited_member s new) (ChangedMember new) p (λ e.
      member_put s m new h (ap (row_at member_id s.members.rows) own ∙ at) (record { id = refl; range = refl; number = refl }) p)

  -- a member that is cut is another one, or this one is given back
  member_cut : (s : Pools) (id : ℕ) (found : Option Member) → IsThere s → IsThere (cut_member_step s id found).0 ⊎ ((id ≡ x.id) × ((cut_member_step s id found).1 ≡ Gone))
  member_cut s id None p = inl p
  member_cut s id (Some m) p = go (first_of (cut_member_checks s)) (id == x.id) refl
    where
      go : (why : Check) (t : Bool) → (id == x.id) ≡ t → IsThere (unless why s (without_member s id) Gone).0 ⊎ ((id ≡ x.id) × ((unless why s (without_member s id) Gone).1 ≡ Gone))
      go (Some w) t e = inl p
      go None true e = inr (grind (arith, nat_tests, e), refl)
      go None false e = inl (record { now = p.now; same = p.same; member = without_stays member_id s.members.rows id p.now p.member (ap (λ (n : ℕ). id == n) p.same.id ∙ e); row = p.row; range = p.range; kind = p.kind })

  pub stays : (s : Pools) (asked : PoolCall) → IsLawfulPools s → IsThere s → IsThere (plain_pool_step s asked).0 ⊎ GivesBack s asked
  stays s (call.AddRange kind name first last) h p =
      let row = made_range s kind name first last in
      inl (either (first_of (add_checks s kind name first last)) s (with_range s row) (Made row) p (λ e. range_added s row h refl p))
  stays s (call.CutRange kind id) h p = inl (range_cut s id (range_at s.ranges.rows kind id) p)
  stays s (call.Ranges kind) h p = inl p
  stays s (call.Members kind id) h p = inl (members_stay s id (range_at s.ranges.rows kind id) p)
  stays s (call.CutMember kind id) h p = elim (member_cut s id (member_at s kind id) p) [
    | inl q ↦ inl q
    | inr q ↦ inr (record { kind = kind; is = ap (λ (n : ℕ). call.CutMember kind n) q.0; gone = q.1 })
  ]
  stays s (call.Available kind id limit) h p = inl (available_stays s id limit (range_at s.ranges.rows kind id) p)
  stays s (call.Claim kind id list names) h p = inl (claim_made s id names (range_at s.ranges.rows kind id) h p)
  stays s (call.Record kind id list items) h p = inl (record_made s id items (range_at s.ranges.rows kind id) h p)
  stays s (call.OneRange kind id) h p = inl (one_range_stays s id (range_at s.ranges.rows kind id) p)
  stays s (call.OneMember kind id) h p = inl (one_member_stays s id (member_at s kind id) p)
  stays s (call.EditRange kind id name first last) h p = inl (range_edited s kind id name first last (range_at s.ranges.rows kind id) refl p)
  stays s (call.EditMember kind id name) h p = inl (member_edited s kind id name (member_at s kind id) refl h p)
  stays s (call.Page kind query) h p = inl p
