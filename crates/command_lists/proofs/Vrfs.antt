-- What a register answers where it is asked for a VRF, and that it is as it was.
use Rattle.std.proofs.Common.{◌≡◌, ◌↔◌, ℕ, refl, sym, ◌∙◌, ap, subst, Bool, true, false, Option, Some, None, Result, Ok, Err, IfErr, OnOk, IsSome, is_some}
use Rattle.ipam_data.specs.declared.kinds.Kind.{Kind}
use Rattle.ipam_data.specs.declared.kinds.Kind.TheVariants.{Vrfs}
use Rattle.ipam_data.specs.declared.vrf.Vrf.{Vrf}
use Rattle.ipam_data.specs.declared.calls.Call.TheVariants.{Get}
use Rattle.ipam_data.specs.declared.replies.View.{View}
use Rattle.ipam_data.specs.declared.replies.View.TheVariants.{Vrf as VrfView}
use Rattle.ipam_data.specs.declared.replies.Refusal.{Refusal}
use Rattle.ipam_data.specs.declared.replies.Refusal.TheVariants.{NotFound, Keeper as KeeperFailed, Memory as NoMemory}
use Rattle.ipam_data.specs.declared.replies.Reply.{Reply}
use Rattle.ipam_data.specs.declared.replies.Reply.TheVariants.{One, Refused}
use Rattle.ipam_data.specs.RowList.{row_at}
use Rattle.ipam_data.specs.Rows.{vrf_id}
use Rattle.ipam_data.specs.State.{State, Plan, reading}
use Rattle.ipam_data.specs.Plans.{with_found}
use Rattle.ipam_data.specs.Vrfs.{vrf_rules}
use Rattle.ipam_data.specs.Updates.{outcome}
use Rattle.ipam_data.specs.Replays.{is_accepted}
use Rattle.ipam_data.specs.Steps.{get_plan, plain_step}
use Rattle.stored_tables.specs.declared.tables.Tables.{Tables}
use Rattle.stored_tables.specs.Stored.{Tells, tables_of}
use Rattle.ipam_keeper.specs.Keeping.{Rose}
use Rattle.command_words.specs.declared.asked.TableName.TheVariants as table
use Rattle.command_lists.specs.declared.table.TableStop.{TableStop}
use Rattle.command_lists.specs.declared.table.TableStop.TheVariants.{Opening, Absent, Memory}
use Rattle.command_lists.specs.Tables.{is_there, IsAbsentIn}
use Rattle.command_lists.specs.Reading.{IsStopBy, IsAnswer, IsTableStop}

-- what the plain step says of the VRF of an id, by what stands under the id
abbrev Says : Option Vrf → ℕ → Reply → Type 0
Says None n reply = reply ≡ Refused (NotFound Vrfs n)
Says (Some row) n reply = (view : View) × (reply ≡ One view)

plan_is : (s : State) (n : ℕ) (o : Option Vrf) → row_at vrf_id s.vrfs.rows n ≡ o → get_plan s Vrfs n ≡ with_found vrf_rules n (λ (x : Vrf). reading (One (vrf_rules.view x))) o
plan_is s n o e = ap (λ (q : Option Vrf). with_found vrf_rules n (λ (x : Vrf). reading (One (vrf_rules.view x))) q) e

says : (s : State) (n : ℕ) (o : Option Vrf) → row_at vrf_id s.vrfs.rows n ≡ o → Says o n (plain_step s (Get Vrfs n)).1
says s n None e = ap (λ (p : Plan). (outcome s p).1) (plan_is s n None e)
says s n (Some row) e = (VrfView row, ap (λ (p : Plan). (outcome s p).1) (plan_is s n (Some row) e))

-- an answer is that of the plain step, but where memory ran out or the keeper failed
abbrev pub Steps : State → State → ℕ → Reply → Type 0
Steps s t n reply = ¬ (reply ≡ Refused NoMemory) → ¬ (reply ≡ Refused KeeperFailed) → plain_step s (Get Vrfs n) ≡ (t, reply)

not_accepted : (s : State) (n : ℕ) (o : Option Vrf) (reply : Reply) → row_at vrf_id s.vrfs.rows n ≡ o → (plain_step s (Get Vrfs n)).1 ≡ reply → is_accepted reply ≡ true → ⊥
not_accepted s n None reply e f a =
    let g : reply ≡ Refused (NotFound Vrfs n) = sym f ∙ says s n None e in
    let b : is_accepted reply ≡ false = ap is_accepted g in
    cc
not_accepted s n (Some row) reply e f a =
    let w = says s n (Some row) e in
    let g : reply ≡ One w.0 = sym f ∙ w.1 in
    let b : is_accepted reply ≡ false = ap is_accepted g in
    cc

-- nothing was changed
pub quiet : (s t : State) (n : ℕ) (reply : Reply) → Steps s t n reply → is_accepted reply ≡ false
quiet s t n reply h = go (is_accepted reply) refl
  where
    go : (b : Bool) → is_accepted reply ≡ b → is_accepted reply ≡ false
    go false e = e
    go true e = absurd (not_accepted s n (row_at vrf_id s.vrfs.rows n) reply refl
        (ap (λ (p : State × Reply). p.1) (h (λ m. (let b : is_accepted reply ≡ false = ap is_accepted m in cc)) (λ k. (let b : is_accepted reply ≡ false = ap is_accepted k in cc)))) e)

one_is_there : (s t : State) (n : ℕ) (reply : Reply) (view : View) (o : Option Vrf) → Steps s t n reply → reply ≡ One view → row_at vrf_id s.vrfs.rows n ≡ o → is_there s (table.Vrf n) ≡ true
one_is_there s t n reply view None h one e =
    let step = h (λ m. (cc)) (λ k. (cc)) in
    let f : (plain_step s (Get Vrfs n)).1 ≡ reply = ap (λ (p : State × Reply). p.1) step in
    let g = says s n None e in
    absurd (cc)
one_is_there s t n reply view (Some row) h one e = ap is_some e

absent_is_not : (s t : State) (n : ℕ) (reply : Reply) (kind : Kind) (k : ℕ) (o : Option Vrf) → Steps s t n reply → reply ≡ Refused (NotFound kind k) → row_at vrf_id s.vrfs.rows n ≡ o
    → row_at vrf_id s.vrfs.rows n ≡ None
absent_is_not s t n reply kind k None h absent e = e
absent_is_not s t n reply kind k (Some row) h absent e =
    let step = h (λ m. (cc)) (λ f. (cc)) in
    let f : (plain_step s (Get Vrfs n)).1 ≡ reply = ap (λ (p : State × Reply). p.1) step in
    let g = says s n (Some row) e in
    let same : One g.0 ≡ Refused (NotFound kind k) = sym g.1 ∙ f ∙ absent in
    absurd (cc)

-- a refusal is an answer
pub refused_answer : (n : ℕ) (refusal : Refusal) (reply : Reply) (stop : TableStop) → reply ≡ Refused refusal → IsStopBy n refusal stop → IsAnswer n reply (Err stop)
refused_answer n refusal reply (Absent m) is (same, kind, k, absent) = (same, kind, k, is ∙ ap Refused absent)
refused_answer n refusal reply (Opening fault) is (keeper, failed) = (keeper, is ∙ ap Refused failed)
refused_answer n refusal reply Memory is h = tt

-- the VRF is there
pub there_by : (s t : State) (n : ℕ) (reply : Reply) (result : Result (Unit {0}) TableStop) → Steps s t n reply → IsAnswer n reply result → OnOk result (is_there s (table.Vrf n) ≡ true)
there_by s t n reply (Ok u) h (view, one) = one_is_there s t n reply view (row_at vrf_id s.vrfs.rows n) h one refl
there_by s t n reply (Err stop) h answer = tt

-- it is not, or its register did not tell
pub stopped_by : (s t : State) (n few more : ℕ) (reply : Reply) (result : Result (Unit {0}) TableStop) → Steps s t n reply → IsAnswer n reply result
    → (reply ≡ Refused KeeperFailed → Rose few more) → IfErr result (IsTableStop s (table.Vrf n) few more)
stopped_by s t n few more reply (Ok u) h answer failed = tt
stopped_by s t n few more reply (Err (Absent m)) h (same, kind, k, absent) failed =
    subst (λ (j : ℕ). IsAbsentIn s (table.Vrf n) j) (sym same) (refl, absent_is_not s t n reply kind k (row_at vrf_id s.vrfs.rows n) h absent refl)
stopped_by s t n few more reply (Err (Opening fault)) h (is, keeper) failed = (is, failed keeper)
stopped_by s t n few more reply (Err Memory) h answer failed = tt

-- a keeper whose tables are those of one state before and after tells what it told
pub same_told : (old new : Option Tables) (s t : State) → Tells old s → Tells new t → t ≡ s → (IsSome old ↔ IsSome new) → new ≡ old
same_told None None s t a b e h = refl
same_told None (Some tables) s t a b e h = absurd (let no_ = h.1 refl in cc)
same_told (Some tables) None s t a b e h = absurd (let no_ = h.0 refl in cc)
same_told (Some one) (Some other) s t a b e h = ap (λ (x : Tables). let o : Option Tables = Some x in o) (b ∙ ap tables_of e ∙ sym a)
