-- What an accepted change leaves of what holds of pools, and which answers the plain step never gives.
use Rattle.std.proofs.Common.{◌≡◌, ◌≢◌, ℕ, ◌+◌, ◌==◌, ◌&&◌, nat_le, Bool, true, false, List, [], ◌∷◌, ◌++◌, length, Option, Some, None, Result, Ok, Err, IfOk, OnOk, option_map, refl, ap, sym, ◌∙◌, subst, if◌then◌else◌}
use Rattle.std.specs.List.{list_any}
use Rattle.history_lock.specs.Replies.{ReplyKind, accepted, fault, memory, plain, grown}
use Rattle.ipam_data.specs.declared.kinds.TheConstants.{LAST_ID}
use Rattle.ipam_data.specs.Checks.{first as first_of, most_spent}
use Rattle.ipam_data.specs.RowList.{last_next, least, least_rival}
use Rattle.number_pools.specs.declared.rows.NumberRange.{NumberRange}
use Rattle.number_pools.specs.declared.rows.Member.{Member}
use Rattle.number_pools.specs.declared.calls.Quantity.{Quantity}
use Rattle.number_pools.specs.declared.calls.Quantity.TheVariants.{Claims, Items, Ids, Log, Ranges as RangeCount, Members as MemberCount}
use Rattle.number_pools.specs.declared.calls.TheConstants.{MOST_CLAIMED, MOST_MEMBERS, MOST_RANGES}
use Rattle.number_pools.specs.declared.calls.PoolRefusal.{PoolRefusal}
use Rattle.number_pools.specs.declared.calls.PoolRefusal.TheVariants.{Absent, NameTaken, Bounds, InUse, NoSpace, Outside, Taken, Repeated, Limit, Keeper, Memory}
use Rattle.number_pools.specs.declared.calls.PoolCall.{PoolCall}
use Rattle.number_pools.specs.declared.calls.PoolCall.TheVariants as call
use Rattle.number_pools.specs.declared.calls.PoolReply.{PoolReply}
use Rattle.number_pools.specs.declared.calls.PoolReply.TheVariants.{Made, Gone, Claimed, ChangedRange, ChangedMember, Refused}
use Rattle.number_pools.specs.Machines.{kind_of, refusal_kind}
use Rattle.number_pools.specs.Rows.{Pools, member_id, range_id}
use Rattle.number_pools.specs.Free.{free_numbers, holds, pool_of}
use Rattle.number_pools.specs.Lawful.{IsLawfulPools}
use Rattle.number_pools.specs.Steps.{Check, edit_member_checks, edit_member_step, edit_range_checks, edit_range_step, edited_member, edited_range, has_one_name, is_cut_off, one_member_step, one_range_step, with_edited_member, with_edited_range, add_checks, available_step, claim_checks, claim_step, claimed, cut_member_checks, cut_member_step, cut_range_checks, cut_range_step, has_name, in_bounds, is_number_taken, is_of_range, is_outside, is_repeated, made_range, member_at, members_step, numbers_of, plain_pool_step, range_at, record_checks, record_step, recorded, unfit, unless, with_claim, with_range, with_record, without_member, without_range}
use Rattle.pool_keeper.specs.declared.tables.PoolTables.{PoolTables}
use Rattle.pool_keeper.specs.Stored.{Tells}
use Rattle.pool_register.specs.declared.planned.Update.{Update}
use Rattle.pool_register.specs.declared.planned.Update.TheVariants.{AddRange, CutRange, CutMember, Claim, EditRange, EditMember}
use Rattle.pool_register.specs.declared.planned.Planned.{Planned}
use Rattle.pool_register.specs.declared.stop.Stop.{Stop}
use Rattle.pool_register.specs.declared.stop.Stop.TheVariants as no
use Rattle.pool_register.specs.Stops.{refusal_of}
use Rattle.pool_register.specs.Kept.{IsWhole, Kept, replay}
use Rattle.pool_register.specs.declared.planned.Planned.TheVariants.{Change, Read}
use Rattle.pool_register.specs.Planned.{IsPlanned, reply_of, updated}

-- ---- histories

one_more : (s : Pools) (log : List (ℕ × PoolCall)) (entry : ℕ × PoolCall) → replay s (log ++ entry ∷ []) ≡ (plain_pool_step (replay s log) entry.1).0
one_more s [] entry = refl
one_more s (x ∷ xs) entry = one_more (plain_pool_step s x.1).0 xs entry

pub whole_grows : (o s t : Pools) (log items : List (ℕ × PoolCall)) (who : ℕ) (called : PoolCall) (reply : PoolReply) (told new : Option PoolTables) → IsWhole o s log told
    → plain_pool_step s called ≡ (t, reply) → items ≡ log ++ (who, called) ∷ [] → Tells new t → IsWhole o t items new
whole_grows o s t log items who called reply told new h e i w =
    subst (λ (xs : List (ℕ × PoolCall)). IsWhole o t xs new) (sym i) (record {
      replayed = sym (ap (λ (p : Pools × PoolReply). p.0) e) ∙ ap (λ (u : Pools). (plain_pool_step u called).0) h.replayed ∙ sym (one_more o log (who, called));
      tells = w;
    })

-- the reply to an update is an accepted change
pub reply_accepted : (u : Update) → kind_of (reply_of u) ≡ accepted
reply_accepted (AddRange range) = refl
reply_accepted (CutRange id) = refl
reply_accepted (CutMember id) = refl
reply_accepted (Claim made) = refl
reply_accepted (EditRange range) = refl
reply_accepted (EditMember m) = refl

-- after a refusal the history is as before
pub refused_stays : (why : PoolRefusal) (entry : ℕ × PoolCall) (log : List (ℕ × PoolCall)) → grown (refusal_kind why) entry log ≡ log
refused_stays (Absent id) entry log = refl
refused_stays (NameTaken id) entry log = refl
refused_stays Bounds entry log = refl
refused_stays (InUse id) entry log = refl
refused_stays (NoSpace n) entry log = refl
refused_stays (Outside n) entry log = refl
refused_stays (Taken n id) entry log = refl
refused_stays (Repeated n) entry log = refl
refused_stays (Limit which n) entry log = refl
refused_stays Keeper entry log = refl
refused_stays Memory entry log = refl

-- ---- the plain step tells no fault

-- a check refuses by a rule alone
abbrev IsRule : Check → Type 0
IsRule None = Unit {0}
IsRule (Some why) = refusal_kind why ≡ plain

abbrev AreRules : List Check → Type 0
AreRules [] = Unit {0}
AreRules (c ∷ cs) = IsRule c × AreRules cs

first_rule : (checks : List Check) → AreRules checks → IsRule (first_of checks)
first_rule [] h = tt
first_rule (Some why ∷ rest) h = h.0
first_rule (None ∷ rest) h = first_rule rest h.1

limit_rule : (t : Bool) (which : Quantity) (n : ℕ) → IsRule (if t then None else Some (Limit which n))
limit_rule true which n = tt
limit_rule false which n = refl

bounds_rule : (t : Bool) → IsRule (if t then None else Some Bounds)
bounds_rule true = tt
bounds_rule false = refl

short_rule : (t : Bool) (n : ℕ) → IsRule (if t then None else Some (NoSpace n))
short_rule true n = tt
short_rule false n = refl

name_rule : (o : Option ℕ) → IsRule (option_map NameTaken o)
name_rule None = tt
name_rule (Some n) = refl

use_rule : (o : Option ℕ) → IsRule (option_map InUse o)
use_rule None = tt
use_rule (Some n) = refl

outside_rule : (t : Bool) (n : ℕ) → IsRule (if t then None else Some (Outside n))
outside_rule true n = tt
outside_rule false n = refl

taken_rule : (n : ℕ) (o : Option ℕ) → IsRule (option_map (Taken n) o)
taken_rule n None = tt
taken_rule n (Some id) = refl

again_rule : (t : Bool) (n : ℕ) → IsRule (if t then Some (Repeated n) else None)
again_rule true n = refl
again_rule false n = tt

unfit_rule : (s : Pools) (range : NumberRange) (before ns : List ℕ) → IsRule (unfit s range before ns)
unfit_rule s range before [] = tt
unfit_rule s range before (n ∷ ns) =
    first_rule (is_outside range n ∷ is_number_taken s range n ∷ is_repeated before n ∷ unfit s range (before ++ n ∷ []) ns ∷ []) (
      outside_rule (nat_le range.first n && nat_le n range.last) n,
      (taken_rule n (least member_id (holds s.ranges.rows (pool_of range) n) s.members.rows), (again_rule (list_any (λ m. m == n) before) n, (unfit_rule s range (before ++ n ∷ []) ns, tt))),
    )

-- the kind of an answer that is no fault and not want of memory
abbrev IsAnswer : ReplyKind → Type 0
IsAnswer accepted = Unit {0}
IsAnswer plain = Unit {0}
IsAnswer fault = ⊥
IsAnswer memory = ⊥

unless_answer : (check : Check) (s new : Pools) (reply : PoolReply) → IsRule check → kind_of reply ≡ accepted → IsAnswer (kind_of (unless check s new reply).1)
unless_answer (Some why) s new reply h k = subst IsAnswer (sym h) tt
unless_answer None s new reply h k = subst IsAnswer (sym k) tt

pub step_answers : (s : Pools) (called : PoolCall) → IsAnswer (kind_of (plain_pool_step s called).1)
step_answers s (call.AddRange kind name first last) =
    unless_answer (first_of (add_checks s kind name first last)) s (with_range s (made_range s kind name first last)) (Made (made_range s kind name first last))
    (first_rule (add_checks s kind name first last) (name_rule (least range_id (has_name kind name) s.ranges.rows), (bounds_rule (in_bounds kind first last), (limit_rule (nat_le (length s.ranges.rows + 1) MOST_RANGES) RangeCount MOST_RANGES, (limit_rule (nat_le (s.ranges.next + 1) last_next) Ids LAST_ID, (limit_rule (nat_le (s.spent + 1) most_spent) Log most_spent, tt)))))) refl
step_answers s (call.CutRange kind id) = go (range_at s.ranges.rows kind id)
  where
    go : (o : Option NumberRange) → IsAnswer (kind_of (cut_range_step s id o).1)
    go None = tt
    go (Some range) =
        unless_answer (first_of (cut_range_checks s id)) s (without_range s id) Gone (first_rule (cut_range_checks s id) (use_rule (least member_id (is_of_range id) s.members.rows), (limit_rule (nat_le (s.spent + 1) most_spent) Log most_spent, tt))) refl
step_answers s (call.Ranges kind) = tt
step_answers s (call.Members kind id) = go (range_at s.ranges.rows kind id)
  where
    go : (o : Option NumberRange) → IsAnswer (kind_of (members_step s id o).1)
    go None = tt
    go (Some range) = tt
step_answers s (call.CutMember kind id) = go (member_at s kind id)
  where
    go : (o : Option Member) → IsAnswer (kind_of (cut_member_step s id o).1)
    go None = tt
    go (Some m) = unless_answer (first_of (cut_member_checks s)) s (without_member s id) Gone (first_rule (cut_member_checks s) (limit_rule (nat_le (s.spent + 1) most_spent) Log most_spent, tt)) refl
step_answers s (call.Available kind id limit) = go (range_at s.ranges.rows kind id)
  where
    go : (o : Option NumberRange) → IsAnswer (kind_of (available_step s id limit o).1)
    go None = tt
    go (Some range) = tt
step_answers s (call.Claim kind id list names) = go (range_at s.ranges.rows kind id)
  where
    go : (o : Option NumberRange) → IsAnswer (kind_of (claim_step s id names o).1)
    go None = tt
    go (Some range) =
        unless_answer (first_of (claim_checks s range (length names))) s (with_claim s range names) (Claimed (claimed s range names))
        (first_rule (claim_checks s range (length names)) (limit_rule (nat_le (length names) MOST_CLAIMED) Claims MOST_CLAIMED, (short_rule (nat_le (length names) (length (free_numbers s range))) (length (free_numbers s range)), (limit_rule (nat_le (length s.members.rows + length names) MOST_MEMBERS) MemberCount MOST_MEMBERS, (limit_rule (nat_le (s.members.next + length names) last_next) Ids LAST_ID, (limit_rule (nat_le (s.spent + length names) most_spent) Log most_spent, tt)))))) refl
step_answers s (call.Record kind id list items) = go (range_at s.ranges.rows kind id)
  where
    go : (o : Option NumberRange) → IsAnswer (kind_of (record_step s id items o).1)
    go None = tt
    go (Some range) =
        unless_answer (first_of (record_checks s range items)) s (with_record s range items) (Claimed (recorded s range items))
        (first_rule (record_checks s range items) (limit_rule (nat_le (length items) MOST_CLAIMED) Items MOST_CLAIMED, (unfit_rule s range [] (numbers_of items), (limit_rule (nat_le (length s.members.rows + length items) MOST_MEMBERS) MemberCount MOST_MEMBERS, (limit_rule (nat_le (s.members.next + length items) last_next) Ids LAST_ID, (limit_rule (nat_le (s.spent + length items) most_spent) Log most_spent, tt)))))) refl
step_answers s (call.OneRange kind id) = go (range_at s.ranges.rows kind id)
  where
    go : (o : Option NumberRange) → IsAnswer (kind_of (one_range_step s id o).1)
    go None = tt
    go (Some range) = tt
step_answers s (call.OneMember kind id) = go (member_at s kind id)
  where
    go : (o : Option Member) → IsAnswer (kind_of (one_member_step s id o).1)
    go None = tt
    go (Some m) = tt
step_answers s (call.EditRange kind id name first last) = go (range_at s.ranges.rows kind id)
  where
    go : (o : Option NumberRange) → IsAnswer (kind_of (edit_range_step s id name first last o).1)
    go None = tt
    go (Some range) =
        let row = edited_range range name first last in
        unless_answer (first_of (edit_range_checks s row)) s (with_edited_range s row) (ChangedRange row)
        (first_rule (edit_range_checks s row) (name_rule (least_rival range_id has_one_name s.ranges.rows row), (bounds_rule (in_bounds row.kind row.first row.last), (use_rule (least member_id (is_cut_off row) s.members.rows), (limit_rule (nat_le (s.spent + 1) most_spent) Log most_spent, tt))))) refl
step_answers s (call.Page kind query) = tt
step_answers s (call.EditMember kind id name) = go (member_at s kind id)
  where
    go : (o : Option Member) → IsAnswer (kind_of (edit_member_step s id name o).1)
    go None = tt
    go (Some m) =
        let row = edited_member m name in
        unless_answer (first_of (edit_member_checks s)) s (with_edited_member s row) (ChangedMember row) (first_rule (edit_member_checks s) (limit_rule (nat_le (s.spent + 1) most_spent) Log most_spent, tt)) refl

-- so it never answers that the keeper failed
pub no_keeper : (s : Pools) (called : PoolCall) → (plain_pool_step s called).1 ≢ Refused Keeper
no_keeper s called e = subst (λ (r : PoolReply). IsAnswer (kind_of r)) e (step_answers s called)

-- ---- a planned update

pub state_same : {K : Type 0} (a b : Kept K) → a ≡ b → a.state ≡ b.state
state_same {K} a b e = ap (λ (k : Kept K). k.state) e

module _ (called : PoolCall) (u : Update) where
  pub plan_same : (inner old : Pools) → inner ≡ old → IsPlanned old called (Change u) → IsPlanned inner called (Change u)
  plan_same inner old e h = subst (λ (s : Pools). IsPlanned s called (Change u)) (sym e) h

  -- the pools behind it are lawful, as those behind the plain step are
  pub after_lawful : (s : Pools) → IsPlanned s called (Change u) → IsLawfulPools (plain_pool_step s called).0 → IsLawfulPools (updated s u)
  after_lawful s h l = subst IsLawfulPools (ap (λ (p : Pools × PoolReply). p.0) h.0) l

  -- it is the plain step
  pub step_is : (s new : Pools) (reply : PoolReply) → IsPlanned s called (Change u) → new ≡ updated s u → reply ≡ reply_of u → plain_pool_step s called ≡ (new, reply)
  step_is s new reply h n r = h.0 ∙ (λ i. let p : Pools × PoolReply = (sym n i, sym r i) in p)

  pub asked_accepted : (s : Pools) → IsPlanned s called (Change u) → kind_of (plain_pool_step s called).1 ≡ accepted
  asked_accepted s h = ap (λ (p : Pools × PoolReply). kind_of p.1) h.0 ∙ reply_accepted u

-- an answer of the plain step does not tell that the keeper failed
pub not_keeper : (s t : Pools) (called : PoolCall) (reply told : PoolReply) → plain_pool_step s called ≡ (t, reply) → told ≡ reply → told ≢ Refused Keeper
not_keeper s t called reply told e r k = no_keeper s called (ap (λ (p : Pools × PoolReply). p.1) e ∙ sym r ∙ k)

-- ---- what follows of a plan

pub read_steps : (s : Pools) (called : PoolCall) (p : Planned) (reply : PoolReply) → p ≡ Read reply → IsPlanned s called p → (plain_pool_step s called ≡ (s, reply)) × (kind_of reply ≡ plain)
read_steps s called p reply e h = subst (λ (q : Planned). IsPlanned s called q) e h

pub read_stays : (reply : PoolReply) (entry : ℕ × PoolCall) (log : List (ℕ × PoolCall)) → kind_of reply ≡ plain → log ≡ grown (kind_of reply) entry log
read_stays reply entry log k = sym (ap (λ (kind : ReplyKind). grown kind entry log) k)

pub change_logged : (result : Result PoolReply Stop) (entry : ℕ × PoolCall) (old new : List (ℕ × PoolCall)) → IfOk result (λ r. kind_of r ≡ accepted) → OnOk result (new ≡ old ++ entry ∷ [])
    → IfOk result (λ r. new ≡ grown (kind_of r) entry old)
change_logged (Ok r) entry old new a e = e ∙ sym (ap (λ (kind : ReplyKind). grown kind entry old) a)
change_logged (Err stop) entry old new a e = tt

pub change_idle : (P : Type 0) (result : Result PoolReply Stop) → IfOk result (λ r. kind_of r ≡ accepted) → IfOk result (λ r. ¬ (kind_of r ≡ accepted) → P)
change_idle P (Ok r) a = λ d. absurd (d a)
change_idle P (Err stop) a = tt

-- what stopped a call is no accepted change
pub stop_stays : (stop : Stop) (why : PoolRefusal) (reply : PoolReply) (entry : ℕ × PoolCall) (log new : List (ℕ × PoolCall)) → reply ≡ Refused why → why ≡ refusal_of stop → new ≡ log
    → new ≡ grown (kind_of reply) entry log
stop_stays stop why reply entry log new e w n = n ∙ sym (refused_stays why entry log) ∙ sym (ap (λ (r : PoolReply). grown (kind_of r) entry log) e)

-- nor is it told as any answer of the plain step
pub stopped : (stop : Stop) (why : PoolRefusal) (reply : PoolReply) → reply ≡ Refused why → why ≡ refusal_of stop → reply ≢ Refused Memory → reply ≢ Refused Keeper → ⊥
stopped no.Memory why reply e w m k = m (e ∙ ap Refused w)
stopped no.Keeper why reply e w m k = k (e ∙ ap Refused w)

-- the answer that the keeper failed is that of a stop by it
pub stop_is : (stop : Stop) (why : PoolRefusal) (reply : PoolReply) → reply ≡ Refused why → why ≡ refusal_of stop → reply ≡ Refused Keeper → stop ≡ no.Keeper
stop_is no.Memory why reply e w k = let q : Refused Memory ≡ Refused Keeper = sym (ap Refused w) ∙ sym e ∙ k in cc
stop_is no.Keeper why reply e w k = refl
