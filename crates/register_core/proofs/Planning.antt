-- What is known where a call was planned as a change.
use Rattle.std.proofs.Common.{◌≡◌, ◌≢◌, true, Option, Some, None, refl, ap, sym, ◌∙◌, subst}
use Rattle.ipam_data.specs.declared.calls.Call.{Call}
use Rattle.stored_tables.specs.declared.tables.Change.{Change as StoredChange}
use Rattle.ipam_data.specs.declared.update.Update.{Update}
use Rattle.ipam_data.specs.declared.replies.Reply.{Reply}
use Rattle.ipam_data.specs.declared.replies.Reply.TheVariants.{Made, MadeMany, Changed, Gone, Imported, One, Page, Blocks, Addrs, Percent, Rows, Lines, Refused}
use Rattle.ipam_data.specs.State.{State, Plan, verdict_of}
use Rattle.ipam_data.specs.Steps.{plan_of, plain_step, HasCallBounds}
use Rattle.ipam_data.specs.Updates.{updated, answered, outcome}
use Rattle.ipam_data.specs.Updates.{CanUpdate}
use Rattle.stored_tables.specs.Stored.{tables_of, changed, change_of}
use Rattle.ipam_data.specs.Replays.{is_accepted}
use Rattle.ipam_data.specs.Lawful.{IsLawful}
use Rattle.ipam_data.proofs.AllCalls.{steps_keep, calls_can}
use Rattle.ipam_data.proofs.Sound.{nothing_done}
use Rattle.stored_tables.proofs.StoredLaws.{change_told, lawful_ordered}
use Rattle.register_tables.specs.declared.planned.Planned.{Planned}
use Rattle.register_tables.specs.declared.planned.Planned.TheVariants.{Read, Change}
use Rattle.ipam_data.specs.declared.replies.Refusal.{Refusal}
use Rattle.ipam_data.specs.declared.replies.Refusal.TheVariants.{Memory, Keeper}
use Rattle.register_core.specs.declared.stop.Stop.{Stop}
use Rattle.register_core.specs.declared.stop.Stop.TheVariants.{Memory as NoMemory, Keeper as KeeperStop}
use Rattle.register_core.specs.Stops.{refusal_of}
use Rattle.register_tables.specs.Planned.{IsPlanned, IsRead, IsChange}
use Rattle.register_core.specs.Kept.{Kept, Leads, IsLastChange}

-- a change that was planned is that of the plan
change_is : (plan : Plan) (p : Planned) (u : Update) (reply : Reply) → p ≡ Change u reply → IsPlanned plan p → IsChange plan u reply
change_is plan p u reply e h = subst (λ (q : Planned). IsPlanned plan q) e h

pub change_can : (s : State) (call : Call) (p : Planned) (u : Update) (reply : Reply) → p ≡ Change u reply → IsPlanned (plan_of s call) p → IsLawful s → HasCallBounds call → CanUpdate s u
change_can s call p u reply e h l b =
    let is = change_is (plan_of s call) p u reply e h in
    subst (λ (w : Update). CanUpdate s w) is.does (calls_can s call l b is.verdict)

left_by : (s : State) (plan : Plan) → verdict_of plan ≡ None → (outcome s plan).0 ≡ updated s plan.update
left_by s plan v = rw (v, outcome) refl

pub change_lawful : (s : State) (call : Call) (p : Planned) (u : Update) (reply : Reply) → p ≡ Change u reply → IsPlanned (plan_of s call) p → IsLawful s → HasCallBounds call → IsLawful (updated s u)
change_lawful s call p u reply e h l b =
    let is = change_is (plan_of s call) p u reply e h in
    subst (λ (t : State). IsLawful t) (left_by s (plan_of s call) is.verdict ∙ ap (λ (w : Update). updated s w) is.does) (steps_keep s call l b)

-- the figures of a reply do not say whether it is that of an accepted change
pub accepted_alike : (s : State) (reply : Reply) → is_accepted (answered s reply) ≡ is_accepted reply
accepted_alike s (Made view) = refl
accepted_alike s (MadeMany views) = refl
accepted_alike s (Changed view) = refl
accepted_alike s Gone = refl
accepted_alike s (Imported created present) = refl
accepted_alike s (One view) = refl
accepted_alike s (Page count views) = refl
accepted_alike s (Blocks vrf list) = refl
accepted_alike s (Addrs vrf len list) = refl
accepted_alike s (Percent figure) = refl
accepted_alike s (Rows rows) = refl
accepted_alike s (Lines lines) = refl
accepted_alike s (Refused refusal) = refl

pub change_accepted : (s t : State) (call : Call) (p : Planned) (u : Update) (reply answer : Reply) → p ≡ Change u reply → IsPlanned (plan_of s call) p → answer ≡ answered t reply → is_accepted answer ≡ true
change_accepted s t call p u reply answer e h a =
    let is = change_is (plan_of s call) p u reply e h in
    ap is_accepted a ∙ accepted_alike t reply ∙ is.accepted

outcome_is : (s : State) (plan : Plan) → verdict_of plan ≡ None → outcome s plan ≡ (updated s plan.update, answered (updated s plan.update) plan.reply)
outcome_is s plan v = rw (v, outcome) refl

-- a change that was planned is one that the plain step accepts
pub change_asked : (s : State) (call : Call) (p : Planned) (u : Update) (reply : Reply) → p ≡ Change u reply → IsPlanned (plan_of s call) p → is_accepted (plain_step s call).1 ≡ true
change_asked s call p u reply e h =
    let is = change_is (plan_of s call) p u reply e h in
    ap (λ (q : State × Reply). is_accepted q.1) (outcome_is s (plan_of s call) is.verdict)
    ∙ accepted_alike (updated s (plan_of s call).update) (plan_of s call).reply ∙ ap is_accepted is.says ∙ is.accepted

-- the change that was made leads from the tables before to those after
pub change_leads : (s new : State) (u : Update) (change : StoredChange) → IsLawful s → CanUpdate s u → new ≡ updated s u → change ≡ change_of u → Leads s new (Some change)
change_leads s new u change l can n c =
    (change, refl, subst (λ (d : StoredChange). changed d (tables_of s) ≡ tables_of new) (sym c) (change_told s u (lawful_ordered s l) can ∙ ap tables_of (sym n)))

-- the plain step of a change that was planned
pub change_steps : (s new : State) (call : Call) (p : Planned) (u : Update) (reply : Reply) → p ≡ Change u reply → IsPlanned (plan_of s call) p → new ≡ updated s u → plain_step s call ≡ (new, answered new reply)
change_steps s new call p u reply e h n =
    let is = change_is (plan_of s call) p u reply e h in
    let led : updated s (plan_of s call).update ≡ new = ap (λ (w : Update). updated s w) is.does ∙ sym n in
    outcome_is s (plan_of s call) is.verdict ∙ ap (λ (t : State). let pair : State × Reply = (t, answered t (plan_of s call).reply) in pair) led
    ∙ ap (λ (r : Reply). let pair : State × Reply = (new, answered new r) in pair) is.says

-- a stop is told by one of its two refusals
pub stopped : (stop : Stop) (refusal : Refusal) (reply : Reply) → reply ≡ Refused refusal → refusal ≡ refusal_of stop → reply ≢ Refused Memory → reply ≢ Refused Keeper → ⊥
stopped NoMemory refusal reply e r m k = m (e ∙ ap Refused r)
stopped KeeperStop refusal reply e r m k = k (e ∙ ap Refused r)

pub change_last : (s new : State) (u : Update) (change : StoredChange) (answer : Reply) (before : Option StoredChange) → is_accepted answer ≡ true → IsLawful s → CanUpdate s u → new ≡ updated s u
    → change ≡ change_of u → IsLastChange answer s new before (Some change)
change_last s new u change answer before a l can n c =
    rw a (change_leads s new u change l can n c)

-- the state of what is kept, by another name
pub state_same : {K : Type 0} (a b : Kept K) → a ≡ b → a.state ≡ b.state
state_same {K} a b e = ap (λ (k : Kept K). k.state) e

-- what was planned at a state, where the state is known by another name
pub plan_same : (inner old : State) (call : Call) (u : Update) (reply : Reply) → inner ≡ old → IsPlanned (plan_of old call) (Change u reply) → IsPlanned (plan_of inner call) (Change u reply)
plan_same inner old call u reply e h = subst (λ (s : State). IsPlanned (plan_of s call) (Change u reply)) (sym e) h

-- the plain step of a read that was planned
pub read_steps : (inner s : State) (call : Call) (p : Planned) (reply answer : Reply) → inner ≡ s → p ≡ Read reply → IsPlanned (plan_of s call) p → answer ≡ answered inner reply → plain_step s call ≡ (s, answer)
read_steps inner s call p reply answer same e h a =
    let is : IsRead (plan_of s call) reply = subst (λ (q : Planned). IsPlanned (plan_of s call) q) e h in
    let idle : updated s (plan_of s call).update ≡ s = ap (λ (w : Update). updated s w) is.idle ∙ nothing_done s in
    outcome_is s (plan_of s call) is.verdict ∙ ap (λ (t : State). let pair : State × Reply = (t, answered t (plan_of s call).reply) in pair) idle
    ∙ ap (λ (r : Reply). let pair : State × Reply = (s, r) in pair) (ap (λ (r : Reply). answered s r) is.says ∙ sym (a ∙ ap (λ (t : State). answered t reply) same))
