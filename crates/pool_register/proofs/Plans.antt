-- What calls come to, by what their checks come to.
use Rattle.std.proofs.Common.{◌≡◌, ◌≢◌, ℕ, zero, suc, ◌+◌, ◌≤◌, ◌<◌, nat_le, Bool, true, false, List, [], ◌∷◌, ◌++◌, find, get_or, is_some, length, take, Option, Some, None, refl, ap, sym, ◌∙◌, subst, arith, if◌then◌else◌, Contains}
use Rattle.std.proofs.lemmas.Bool.Decides.{nat_tests}
use Rattle.ipam_data.specs.declared.kinds.TheConstants.{LAST_ID}
use Rattle.ipam_data.specs.Checks.{first as first_of, most_spent}
use Rattle.ipam_data.specs.RowList.{row_at, least, last_next}
use Rattle.ipam_data.proofs.RowLists.{eq_true, find_none}
use Rattle.ipam_data.proofs.Kept.{found_there, none_from_map}
use Rattle.ipam_data.proofs.Verdicts.{none_head, none_rest, test_holds}
use Rattle.number_pools.specs.declared.rows.PoolKind.{PoolKind}
use Rattle.number_pools.specs.declared.rows.NumberRange.{NumberRange}
use Rattle.number_pools.specs.declared.rows.Member.{Member}
use Rattle.number_pools.specs.declared.calls.Quantity.{Quantity}
use Rattle.number_pools.specs.declared.calls.Quantity.TheVariants.{Claims, Log, Ids, Ranges as RangeCount, Members as MemberCount}
use Rattle.number_pools.specs.declared.calls.TheConstants.{MOST_RANGES, MOST_MEMBERS, MOST_CLAIMED}
use Rattle.number_pools.specs.declared.calls.PoolRefusal.{PoolRefusal}
use Rattle.number_pools.specs.declared.calls.PoolRefusal.TheVariants.{Absent, InUse, Limit, NoSpace}
use Rattle.number_pools.specs.declared.calls.PoolCall.TheVariants as call
use Rattle.number_pools.specs.declared.calls.PoolReply.{PoolReply}
use Rattle.number_pools.specs.declared.calls.PoolReply.TheVariants.{Made, Gone, Claimed, Members, Numbers, Refused}
use Rattle.number_pools.specs.Claims.{IsClaimed}
use Rattle.number_pools.specs.Rows.{Pools, member_id, range_id}
use Rattle.number_pools.specs.Free.{free_numbers}
use Rattle.number_pools.specs.Lawful.{IsInBounds, IsLawfulPools}
use Rattle.number_pools.specs.Steps.{Check, add_checks, available_step, claim_checks, claim_step, claimed, cut_member_checks, cut_member_step, cut_range_checks, cut_range_step, is_in_use, is_name_taken, is_of_range, is_out_of_bounds, is_short, made_members, made_range, member_at, member_limits, members_of, members_step, no_ids, no_log, of_kind, plain_pool_step, range_at, same_kind, too_many, unless, with_claim, with_made, with_range, without_member, without_range}
use Rattle.pool_register.specs.declared.planned.Update.TheVariants.{AddRange, CutRange, CutMember, Claim}
use Rattle.pool_register.specs.declared.planned.Planned.TheVariants.{Change}
use Rattle.pool_register.specs.Planned.{AreFrom, CanAddRange, CanClaim, CanCutRange, IsPlanned, IsPlannedAs, with_members}

-- ---- a check that refuses, and one that does not

pub unless_some : (check : Check) (why : PoolRefusal) (s new : Pools) (reply : PoolReply) → check ≡ Some why → unless check s new reply ≡ (s, Refused why)
unless_some check why s new reply e = ap (λ (c : Check). unless c s new reply) e

pub unless_none : (check : Check) (s new : Pools) (reply : PoolReply) → check ≡ None → unless check s new reply ≡ (new, reply)
unless_none check s new reply e = ap (λ (c : Check). unless c s new reply) e

pub no_more : (which : Quantity) (most count : ℕ) → too_many which most count ≡ None → count ≤ most
no_more which most count e = let t = test_holds (nat_le count most) (Limit which most) e in grind (arith, nat_tests)

ids_fit : (next more : ℕ) → no_ids next more ≡ None → next + more ≤ last_next
ids_fit next more e = let t = test_holds (nat_le (next + more) last_next) (Limit Ids LAST_ID) e in grind (arith, nat_tests)

-- ---- the range that is meant

there_of : (kind : PoolKind) (o : Option NumberRange) (range : NumberRange) → of_kind kind o ≡ Some range → o ≡ Some range
there_of kind None range e = cc
there_of kind (Some x) range e = go (same_kind x.kind kind) e
  where
    go : (t : Bool) → (if t then Some x else None) ≡ Some range → Some x ≡ Some range
    go true e = e
    go false e = cc

-- it is in its bounds
pub bounds_at : (s : Pools) (kind : PoolKind) (id : ℕ) (range : NumberRange) → IsLawfulPools s → range_at s.ranges.rows kind id ≡ Some range → IsInBounds range
bounds_at s kind id range h e = h.bounds range (found_there range_id s.ranges.rows id range (there_of kind (row_at range_id s.ranges.rows id) range e)).0

some_is : {A : Type 0} (o : Option A) → is_some o ≡ true → (x : A) × (o ≡ Some x)
some_is None e = cc
some_is (Some x) e = (x, refl)

none_is : {A : Type 0} (o : Option A) → is_some o ≡ false → o ≡ None
none_is None e = refl
none_is (Some x) e = cc

-- ---- a range is made

pub add_refused : (s : Pools) (kind : PoolKind) (name : List ℕ) (first last : ℕ) (why : PoolRefusal) → first_of (add_checks s kind name first last) ≡ Some why
    → plain_pool_step s (call.AddRange kind name first last) ≡ (s, Refused why)
add_refused s kind name first last why e =
    let row = made_range s kind name first last in unless_some (first_of (add_checks s kind name first last)) why s (with_range s row) (Made row) e

pub add_made : (s : Pools) (kind : PoolKind) (name : List ℕ) (first last : ℕ) → first_of (add_checks s kind name first last) ≡ None
    → IsPlanned s (call.AddRange kind name first last) (Change (AddRange (made_range s kind name first last)))
add_made s kind name first last e =
    let row = made_range s kind name first last in
    let taken = is_name_taken s kind name in
    let out = is_out_of_bounds kind first last in
    let many = too_many RangeCount MOST_RANGES (length s.ranges.rows + 1) in
    let ids = no_ids s.ranges.next 1 in
    let log = no_log s 1 in
    let e1 = none_rest taken (out ∷ many ∷ ids ∷ log ∷ []) e in
    let e2 = none_rest out (many ∷ ids ∷ log ∷ []) e1 in
    let e3 = none_rest many (ids ∷ log ∷ []) e2 in
    let e4 = none_rest ids (log ∷ []) e3 in
    let can : CanAddRange s row = record {
      id = refl;
      few = no_more RangeCount MOST_RANGES (length s.ranges.rows + 1) (none_head many (ids ∷ log ∷ []) e2);
      ids = ids_fit s.ranges.next 1 (none_head ids (log ∷ []) e3);
      log = no_more Log most_spent (s.spent + 1) (none_head log [] e4);
    } in
    (unless_none (first_of (add_checks s kind name first last)) s (with_range s row) (Made row) e, can)

-- ---- a range goes

pub cut_range_absent : (s : Pools) (kind : PoolKind) (id : ℕ) → is_some (range_at s.ranges.rows kind id) ≡ false → plain_pool_step s (call.CutRange kind id) ≡ (s, Refused (Absent id))
cut_range_absent s kind id e = ap (cut_range_step s id) (none_is (range_at s.ranges.rows kind id) e)

pub cut_range_refused : (s : Pools) (kind : PoolKind) (id : ℕ) (why : PoolRefusal) → is_some (range_at s.ranges.rows kind id) ≡ true → first_of (cut_range_checks s id) ≡ Some why
    → plain_pool_step s (call.CutRange kind id) ≡ (s, Refused why)
cut_range_refused s kind id why t e =
    ap (cut_range_step s id) (some_is (range_at s.ranges.rows kind id) t).1 ∙ unless_some (first_of (cut_range_checks s id)) why s (without_range s id) Gone e

none_of_range : (s : Pools) (id : ℕ) (m : Member) → is_in_use s id ≡ None → Contains s.members.rows m → m.range ≢ id
none_of_range s id m e c q =
    let f = find_none (is_of_range id) s.members.rows m (none_from_map member_id (find (is_of_range id) s.members.rows) (none_from_map InUse (least member_id (is_of_range id) s.members.rows) e)) c in
    let t : true ≡ false = sym (eq_true m.range id q) ∙ f in cc

pub cut_range_made : (s : Pools) (kind : PoolKind) (id : ℕ) → is_some (range_at s.ranges.rows kind id) ≡ true → first_of (cut_range_checks s id) ≡ None
    → IsPlanned s (call.CutRange kind id) (Change (CutRange id))
cut_range_made s kind id t e =
    let used = is_in_use s id in
    let log = no_log s 1 in
    let can : CanCutRange s id = record {
      unused = λ m c. none_of_range s id m (none_head used (log ∷ []) e) c;
      log = no_more Log most_spent (s.spent + 1) (none_head log [] (none_rest used (log ∷ []) e));
    } in
    (ap (cut_range_step s id) (some_is (range_at s.ranges.rows kind id) t).1 ∙ unless_none (first_of (cut_range_checks s id)) s (without_range s id) Gone e, can)

-- ---- a member goes

pub cut_member_absent : (s : Pools) (kind : PoolKind) (id : ℕ) → is_some (member_at s kind id) ≡ false → plain_pool_step s (call.CutMember kind id) ≡ (s, Refused (Absent id))
cut_member_absent s kind id e = ap (cut_member_step s id) (none_is (member_at s kind id) e)

pub cut_member_refused : (s : Pools) (kind : PoolKind) (id : ℕ) (why : PoolRefusal) → is_some (member_at s kind id) ≡ true → first_of (cut_member_checks s) ≡ Some why
    → plain_pool_step s (call.CutMember kind id) ≡ (s, Refused why)
cut_member_refused s kind id why t e =
    ap (cut_member_step s id) (some_is (member_at s kind id) t).1 ∙ unless_some (first_of (cut_member_checks s)) why s (without_member s id) Gone e

pub cut_member_made : (s : Pools) (kind : PoolKind) (id : ℕ) → is_some (member_at s kind id) ≡ true → first_of (cut_member_checks s) ≡ None
    → IsPlanned s (call.CutMember kind id) (Change (CutMember id))
cut_member_made s kind id t e = (
  ap (cut_member_step s id) (some_is (member_at s kind id) t).1 ∙ unless_none (first_of (cut_member_checks s)) s (without_member s id) Gone e,
  no_more Log most_spent (s.spent + 1) (none_head (no_log s 1) [] e),
)

-- ---- reads

pub members_absent : (s : Pools) (kind : PoolKind) (id : ℕ) → is_some (range_at s.ranges.rows kind id) ≡ false → plain_pool_step s (call.Members kind id) ≡ (s, Refused (Absent id))
members_absent s kind id e = ap (members_step s id) (none_is (range_at s.ranges.rows kind id) e)

pub members_read : (s : Pools) (kind : PoolKind) (id : ℕ) (found : List Member) → is_some (range_at s.ranges.rows kind id) ≡ true → found ≡ members_of s.members.rows id
    → plain_pool_step s (call.Members kind id) ≡ (s, Members found)
members_read s kind id found t e =
    ap (members_step s id) (some_is (range_at s.ranges.rows kind id) t).1 ∙ sym (ap (λ (ms : List Member). let p : Pools × PoolReply = (s, Members ms) in p) e)

pub free_absent : (s : Pools) (kind : PoolKind) (id limit : ℕ) → range_at s.ranges.rows kind id ≡ None → plain_pool_step s (call.Available kind id limit) ≡ (s, Refused (Absent id))
free_absent s kind id limit e = ap (available_step s id limit) e

pub free_read : (s : Pools) (kind : PoolKind) (id limit : ℕ) (range : NumberRange) (found : List ℕ) → range_at s.ranges.rows kind id ≡ Some range → found ≡ take limit (free_numbers s range)
    → plain_pool_step s (call.Available kind id limit) ≡ (s, Numbers found)
free_read s kind id limit range found t e = ap (available_step s id limit) t ∙ sym (ap (λ (ns : List ℕ). let p : Pools × PoolReply = (s, Numbers ns) in p) e)

-- ---- a claim

pub claim_absent : (s : Pools) (kind : PoolKind) (id : ℕ) (list : Bool) (names : List (List ℕ)) → range_at s.ranges.rows kind id ≡ None
    → plain_pool_step s (call.Claim kind id list names) ≡ (s, Refused (Absent id))
claim_absent s kind id list names e = ap (claim_step s id names) e

module _ (s : Pools) (range : NumberRange) (names : List (List ℕ)) where
  refused_by : (why : PoolRefusal) → first_of (claim_checks s range (length names)) ≡ Some why → claim_step s range.id names (Some range) ≡ (s, Refused why)
  refused_by why e = unless_some (first_of (claim_checks s range (length names))) why s (with_claim s range names) (Claimed (claimed s range names)) e

  -- it has too many items
  pub claim_large : (why : PoolRefusal) → too_many Claims MOST_CLAIMED (length names) ≡ Some why → claim_step s range.id names (Some range) ≡ (s, Refused why)
  claim_large why e =
      refused_by why (ap (λ (c : Check). first_of (c ∷ is_short (length (free_numbers s range)) (length names) ∷ member_limits s (length names))) e)

  small : length names ≤ MOST_CLAIMED → too_many Claims MOST_CLAIMED (length names) ≡ None
  small h = let t : nat_le (length names) MOST_CLAIMED ≡ true = grind (arith, nat_tests) in ap (λ (b : Bool). let c : Check = if b then None else Some (Limit Claims MOST_CLAIMED) in c) t

  -- fewer numbers are free
  pub claim_short : (free : ℕ) → length names ≤ MOST_CLAIMED → free ≡ length (free_numbers s range) → length (free_numbers s range) < length names
      → claim_step s range.id names (Some range) ≡ (s, Refused (NoSpace free))
  claim_short free h e l =
      let t : nat_le (length names) (length (free_numbers s range)) ≡ false = grind (arith, nat_tests) in
      refused_by (NoSpace free) (
      ap (λ (c : Check). first_of (c ∷ is_short (length (free_numbers s range)) (length names) ∷ member_limits s (length names))) (small h)
      ∙ ap (λ (b : Bool). first_of ((if b then None else Some (NoSpace (length (free_numbers s range)))) ∷ member_limits s (length names))) t
      ∙ ap (λ (n : ℕ). let c : Check = Some (NoSpace n) in c) (sym e))

  -- what is left where there are numbers
  limits_left : length names ≤ MOST_CLAIMED → length names ≤ length (free_numbers s range)
      → first_of (claim_checks s range (length names)) ≡ first_of (member_limits s (length names))
  limits_left h l =
      let t : nat_le (length names) (length (free_numbers s range)) ≡ true = grind (arith, nat_tests) in
      ap (λ (c : Check). first_of (c ∷ is_short (length (free_numbers s range)) (length names) ∷ member_limits s (length names))) (small h)
      ∙ ap (λ (b : Bool). first_of ((if b then None else Some (NoSpace (length (free_numbers s range)))) ∷ member_limits s (length names))) t

  pub claim_limited : (why : PoolRefusal) → length names ≤ MOST_CLAIMED → length names ≤ length (free_numbers s range) → first_of (member_limits s (length names)) ≡ Some why
      → claim_step s range.id names (Some range) ≡ (s, Refused why)
  claim_limited why h l e = refused_by why (limits_left h l ∙ e)

made_from : (id range : ℕ) (numbers : List ℕ) (names : List (List ℕ)) → AreFrom id (made_members id range numbers names)
made_from id range [] names = tt
made_from id range (n ∷ ns) [] = tt
made_from id range (n ∷ ns) (name ∷ names) = (refl, made_from (id + 1) range ns names)

pub made_length : (id range : ℕ) (numbers : List ℕ) (names : List (List ℕ)) → length numbers ≡ length names → length (made_members id range numbers names) ≡ length names
made_length id range [] [] e = refl
made_length id range [] (name ∷ names) e = absurd (omega arith)
made_length id range (n ∷ ns) [] e = absurd (omega arith)
made_length id range (n ∷ ns) (name ∷ names) e = (let h = made_length (id + 1) range ns names (omega arith) in omega arith)

take_length : (k : ℕ) (xs : List ℕ) → k ≤ length xs → length (take k xs) ≡ k
take_length zero xs l = refl
take_length (suc k) [] l = absurd (omega arith)
take_length (suc k) (x ∷ xs) l = (let h = take_length k xs (omega arith) in omega arith)

-- as many were taken as were wanted
pub took_all : (n : ℕ) (free got : List ℕ) → IsClaimed n free got → length got ≡ n
took_all n free got h = ap length h.least ∙ take_length n free h.enough

-- no limit refuses so many members: they can be made
pub can_make : (s : Pools) (range : ℕ) (numbers : List ℕ) (names : List (List ℕ)) → length numbers ≡ length names → first_of (member_limits s (length names)) ≡ None
    → CanClaim s (made_members s.members.next range numbers names)
can_make s range numbers names same e =
    let n = length names in
    let as_many = made_length s.members.next range numbers names same in
    let many = too_many MemberCount MOST_MEMBERS (length s.members.rows + n) in
    let ids = no_ids s.members.next n in
    let log = no_log s n in
    let e1 = none_rest many (ids ∷ log ∷ []) e in
    let l1 = no_more MemberCount MOST_MEMBERS (length s.members.rows + n) (none_head many (ids ∷ log ∷ []) e) in
    let l2 = ids_fit s.members.next n (none_head ids (log ∷ []) e1) in
    let l3 = no_more Log most_spent (s.spent + n) (none_head log [] (none_rest ids (log ∷ []) e1)) in
    record { id = made_from s.members.next range numbers names; few = omega arith; ids = omega arith; log = omega arith }

-- each of them spends an item
pub spent_each : (s : Pools) (made : List Member) (n : ℕ) → length made ≡ n → (let p : Pools × PoolReply = (with_made s made n, Claimed made) in p) ≡ (with_members s made, Claimed made)
spent_each s made n e = ap (λ (k : ℕ). let p : Pools × PoolReply = (with_made s made k, Claimed made) in p) (sym e)

pub claim_made : (s : Pools) (range : NumberRange) (names : List (List ℕ)) (numbers : List ℕ) → length names ≤ MOST_CLAIMED → IsClaimed (length names) (free_numbers s range) numbers
    → first_of (member_limits s (length names)) ≡ None
    → IsPlannedAs s (claim_step s range.id names (Some range)) (Change (Claim (made_members s.members.next range.id numbers names)))
claim_made s range names numbers small h e =
    let n = length names in
    let made = made_members s.members.next range.id numbers names in
    let took = took_all n (free_numbers s range) numbers h in
    let same : claimed s range names ≡ made = ap (λ (ns : List ℕ). made_members s.members.next range.id ns names) (sym h.least) in (
      unless_none (first_of (claim_checks s range n)) s (with_claim s range names) (Claimed (claimed s range names)) (limits_left s range names small h.enough ∙ e)
          ∙ ap (λ (ms : List Member). let p : Pools × PoolReply = (with_made s ms n, Claimed ms) in p) same
          ∙ spent_each s made n (made_length s.members.next range.id numbers names took),
      can_make s range.id numbers names took e,
    )

pub claim_made_as : (s : Pools) (range : NumberRange) (names : List (List ℕ)) (numbers : List ℕ) (made : List Member) → length names ≤ MOST_CLAIMED → IsClaimed (length names) (free_numbers s range) numbers
    → first_of (member_limits s (length names)) ≡ None → made ≡ made_members s.members.next range.id numbers names → IsPlannedAs s (claim_step s range.id names (Some range)) (Change (Claim made))
claim_made_as s range names numbers made small h e m =
    subst (λ (ms : List Member). IsPlannedAs s (claim_step s range.id names (Some range)) (Change (Claim ms))) (sym m) (claim_made s range names numbers small h e)

-- one more of the numbers and of the names
pub made_more : (id range : ℕ) (numbers : List ℕ) (names : List (List ℕ)) (k n u : ℕ) (name v : List ℕ) (m : Member) → k < length numbers → k < length names → n ≡ get_or numbers k u
    → name ≡ get_or names k v → m ≡ record { id = id + k; range = range; number = n; name = name }
    → made_members id range (take k numbers) (take k names) ++ m ∷ [] ≡ made_members id range (take (suc k) numbers) (take (suc k) names)
made_more id range [] names k n u name v m a b c d e = absurd (omega arith)
made_more id range (x ∷ xs) [] k n u name v m a b c d e = absurd (omega arith)
made_more id range (x ∷ xs) (y ∷ ys) zero n u name v m a b c d e =
    let z : id + 0 ≡ id = omega arith in
    ap (λ (o : Member). o ∷ []) (e ∙ ap (λ (j : ℕ). let o : Member = record { id = j; range = range; number = n; name = name } in o) z
    ∙ ap (λ (j : ℕ). let o : Member = record { id = id; range = range; number = j; name = name } in o) c
    ∙ ap (λ (t : List ℕ). let o : Member = record { id = id; range = range; number = x; name = t } in o) d)
made_more id range (x ∷ xs) (y ∷ ys) (suc k) n u name v m a b c d e =
    let j : id + suc k ≡ id + 1 + k = omega arith in
    ap (λ (ms : List Member). record { id = id; range = range; number = x; name = y } ∷ ms)
    (made_more (id + 1) range xs ys k n u name v m (omega arith) (omega arith) c d (e ∙ ap (λ (i : ℕ). let o : Member = record { id = i; range = range; number = n; name = name } in o) j))

pub made_row : (id range : ℕ) (numbers : List ℕ) (names : List (List ℕ)) (k next n u : ℕ) (name v : List ℕ) (out new : List Member) → length numbers ≡ length names → k < length names
    → new ≡ out ++ record { id = next; range = range; number = n; name = name } ∷ [] → out ≡ made_members id range (take k numbers) (take k names) → next ≡ id + k → n ≡ get_or numbers k u
    → name ≡ get_or names k v → new ≡ made_members id range (take (k + 1) numbers) (take (k + 1) names)
made_row id range numbers names k next n u name v out new same l p o e c d =
    let m : Member = record { id = next; range = range; number = n; name = name } in
    let q : suc k ≡ k + 1 = omega arith in
    subst (λ (i : ℕ). new ≡ made_members id range (take i numbers) (take i names)) q (
    p ∙ ap (λ (ms : List Member). ms ++ m ∷ []) o
    ∙ made_more id range numbers names k n u name v m (omega arith) l c d (ap (λ (i : ℕ). let x : Member = record { id = i; range = range; number = n; name = name } in x) e))
