-- What edits and reads of one row come to, by what their checks come to.
use Rattle.std.proofs.Common.{◌≡◌, ◌≤◌, ℕ, ◌+◌, arith, List, [], ◌∷◌, Option, Some, None, refl, ap, sym, ◌∙◌, subst}
use Rattle.ipam_data.specs.Checks.{first as first_of, most_spent}
use Rattle.ipam_data.specs.RowList.{Rises, row_at}
use Rattle.ipam_data.proofs.RowLists.{rises_above}
use Rattle.ipam_data.proofs.Kept.{found_there}
use Rattle.ipam_data.proofs.Verdicts.{none_head, none_rest}
use Rattle.number_pools.specs.declared.rows.PoolKind.{PoolKind}
use Rattle.number_pools.specs.declared.rows.NumberRange.{NumberRange}
use Rattle.number_pools.specs.declared.rows.Member.{Member}
use Rattle.number_pools.specs.declared.calls.Quantity.TheVariants.{Log}
use Rattle.number_pools.specs.declared.calls.PoolRefusal.{PoolRefusal}
use Rattle.number_pools.specs.declared.calls.PoolRefusal.TheVariants.{Absent}
use Rattle.number_pools.specs.declared.calls.PoolCall.TheVariants as call
use Rattle.number_pools.specs.declared.calls.PoolReply.{PoolReply}
use Rattle.number_pools.specs.declared.calls.PoolReply.TheVariants.{ChangedMember, ChangedRange, OneMember, OneRange, Refused}
use Rattle.number_pools.specs.Rows.{Pools, member_id}
use Rattle.number_pools.specs.Steps.{edit_member_checks, edit_member_step, edit_range_checks, edit_range_step, edited_member, edited_member_step, edited_range, edited_range_step, is_name_of_other, is_out_of_bounds, is_too_small, member_at, no_log, one_member_step, one_range_step, plain_pool_step, range_at, with_edited_member, with_edited_range}
use Rattle.number_pools.proofs.StepLaws.{found_range, member_there}
use Rattle.pool_rows.specs.Held.{KeepsItsKind, KeepsItsNumber}
use Rattle.pool_register.specs.declared.planned.Planned.{Planned}
use Rattle.pool_register.specs.declared.planned.Planned.TheVariants.{Change}
use Rattle.pool_register.specs.declared.planned.Update.TheVariants.{EditMember, EditRange}
use Rattle.pool_register.specs.Planned.{CanEditMember, CanEditRange, IsPlanned, IsPlannedAs}
use Rattle.pool_register.proofs.Plans.{no_more, unless_none, unless_some}

-- ---- reads

pub range_absent : (s : Pools) (kind : PoolKind) (id : ℕ) → range_at s.ranges.rows kind id ≡ None → plain_pool_step s (call.OneRange kind id) ≡ (s, Refused (Absent id))
range_absent s kind id e = ap (one_range_step s id) e

pub range_read : (s : Pools) (kind : PoolKind) (id : ℕ) (range told : NumberRange) → range_at s.ranges.rows kind id ≡ Some range → told ≡ range → plain_pool_step s (call.OneRange kind id) ≡ (s, OneRange told)
range_read s kind id range told e t = ap (one_range_step s id) e ∙ sym (ap (λ (r : NumberRange). let p : Pools × PoolReply = (s, OneRange r) in p) t)

pub member_absent : (s : Pools) (kind : PoolKind) (id : ℕ) → member_at s kind id ≡ None → plain_pool_step s (call.OneMember kind id) ≡ (s, Refused (Absent id))
member_absent s kind id e = ap (one_member_step s id) e

pub member_read : (s : Pools) (kind : PoolKind) (id : ℕ) (m told : Member) → member_at s kind id ≡ Some m → told ≡ m → plain_pool_step s (call.OneMember kind id) ≡ (s, OneMember told)
member_read s kind id m told e t = ap (one_member_step s id) e ∙ sym (ap (λ (x : Member). let p : Pools × PoolReply = (s, OneMember x) in p) t)

-- ---- an edit of a range

pub range_refused : (s : Pools) (range : NumberRange) (why : PoolRefusal) → first_of (edit_range_checks s range) ≡ Some why → edited_range_step s range ≡ (s, Refused why)
range_refused s range why e = unless_some (first_of (edit_range_checks s range)) why s (with_edited_range s range) (ChangedRange range) e

pub range_edited : (s : Pools) (range : NumberRange) → KeepsItsKind s range → first_of (edit_range_checks s range) ≡ None → IsPlannedAs s (edited_range_step s range) (Change (EditRange range))
range_edited s range keeps e =
    let other = is_name_of_other s range in
    let out = is_out_of_bounds range.kind range.first range.last in
    let small = is_too_small s range in
    let log = no_log s 1 in
    let e1 = none_rest other (out ∷ small ∷ log ∷ []) e in
    let e2 = none_rest out (small ∷ log ∷ []) e1 in
    let can : CanEditRange s range = record { keeps = keeps; log = no_more Log most_spent (s.spent + 1) (none_head log [] (none_rest small (log ∷ []) e2)) } in
    (unless_none (first_of (edit_range_checks s range)) s (with_edited_range s range) (ChangedRange range) e, can)

-- the range that was found keeps its kind
pub kind_kept : (s : Pools) (kind : PoolKind) (id : ℕ) (name : Option (List ℕ)) (first last : Option ℕ) (range new : NumberRange) → range_at s.ranges.rows kind id ≡ Some range
    → new ≡ edited_range range name first last → KeepsItsKind s new
kind_kept s kind id name first last range new at e = subst (KeepsItsKind s) (sym e) (record { old = range; there = found_range s kind id range at; kind = refl })

pub edit_range_absent : (s : Pools) (kind : PoolKind) (id : ℕ) (name : Option (List ℕ)) (first last : Option ℕ) → range_at s.ranges.rows kind id ≡ None
    → plain_pool_step s (call.EditRange kind id name first last) ≡ (s, Refused (Absent id))
edit_range_absent s kind id name first last e = ap (edit_range_step s id name first last) e

pub edit_range_planned : (s : Pools) (kind : PoolKind) (id : ℕ) (name : Option (List ℕ)) (first last : Option ℕ) (range new : NumberRange) (p : Planned)
    → range_at s.ranges.rows kind id ≡ Some range → new ≡ edited_range range name first last → IsPlannedAs s (edited_range_step s new) p
    → IsPlanned s (call.EditRange kind id name first last) p
edit_range_planned s kind id name first last range new p at e h =
    subst (λ (step : Pools × PoolReply). IsPlannedAs s step p) (ap (edited_range_step s) e ∙ sym (ap (edit_range_step s id name first last) at)) h

-- ---- an edit of a member

pub member_refused : (s : Pools) (m : Member) (why : PoolRefusal) → first_of (edit_member_checks s) ≡ Some why → edited_member_step s m ≡ (s, Refused why)
member_refused s m why e = unless_some (first_of (edit_member_checks s)) why s (with_edited_member s m) (ChangedMember m) e

pub member_edited : (s : Pools) (m : Member) → KeepsItsNumber s m → first_of (edit_member_checks s) ≡ None → IsPlannedAs s (edited_member_step s m) (Change (EditMember m))
member_edited s m keeps e =
    let can : CanEditMember s m = record { keeps = keeps; log = no_more Log most_spent (s.spent + 1) (none_head (no_log s 1) [] e) } in
    (unless_none (first_of (edit_member_checks s)) s (with_edited_member s m) (ChangedMember m) e, can)

pub number_kept : (s : Pools) (kind : PoolKind) (id : ℕ) (name : Option (List ℕ)) (m new : Member) → member_at s kind id ≡ Some m → new ≡ edited_member m name → KeepsItsNumber s new
number_kept s kind id name m new at e =
    let there = member_there s kind id m at in
    let own : m.id ≡ id = (found_there member_id s.members.rows id m there).1 in
    subst (KeepsItsNumber s) (sym e) (record { old = m; there = ap (row_at member_id s.members.rows) own ∙ there; range = refl; number = refl })

pub edit_member_absent : (s : Pools) (kind : PoolKind) (id : ℕ) (name : Option (List ℕ)) → member_at s kind id ≡ None → plain_pool_step s (call.EditMember kind id name) ≡ (s, Refused (Absent id))
edit_member_absent s kind id name e = ap (edit_member_step s id name) e

pub edit_member_planned : (s : Pools) (kind : PoolKind) (id : ℕ) (name : Option (List ℕ)) (m new : Member) (p : Planned)
    → member_at s kind id ≡ Some m → new ≡ edited_member m name → IsPlannedAs s (edited_member_step s new) p → IsPlanned s (call.EditMember kind id name) p
edit_member_planned s kind id name m new p at e h =
    subst (λ (step : Pools × PoolReply). IsPlannedAs s step p) (ap (edited_member_step s) e ∙ sym (ap (edit_member_step s id name) at)) h

-- ---- what is put in the place of another

-- an id under which a row is found is at least 1
pub id_from_one : {T : Type 0} (id : T → ℕ) (xs : List T) (old : T) (n : ℕ) → Rises id 0 xs → row_at id xs n ≡ Some old → 1 ≤ n
id_from_one id xs old n r e =
    let f = found_there id xs n old e in
    let a = rises_above id 0 xs old r f.0 in
    let b = f.1 in
    omega arith
