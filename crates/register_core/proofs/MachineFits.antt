-- A call of the register is one of a machine.
use Rattle.std.proofs.Common.{◌≡◌, ◌≢◌, ◌⊎◌, ◌↔◌, ℕ, ◌<◌, ◌≤◌, Bool, true, false, List, [], ◌∷◌, map, Option, Some, None, IsSome, is_some, refl, ap, sym, ◌∙◌, subst}
use Rattle.std.specs.Prelude.{take}
use Rattle.std.proofs.lemmas.List.{map-append}
use Rattle.history_lock.specs.Places.{IsLegalAt}
use Rattle.history_lock.specs.Replies.{ReplyKind, fault, grown, AnswersAs}
use Rattle.history_lock.specs.Replay.{replay as machine_replay}
use Rattle.ipam_data.specs.declared.calls.Call.{Call}
use Rattle.ipam_data.specs.declared.replies.Refusal.{Refusal}
use Rattle.ipam_data.specs.declared.replies.Refusal.TheVariants.{BadHead, TooLarge, Coding, NoRoute, Method, BadJson, Field, NotFound, Rule as Breaks, InUse, NoSpace, Limit, Keeper, Memory, Row}
use Rattle.ipam_data.specs.declared.replies.Reply.{Reply}
use Rattle.ipam_data.specs.declared.replies.Reply.TheVariants.{Made, MadeMany, Changed, Gone, Imported, One, Page, Blocks, Addrs, Percent, Rows, Lines, Refused}
use Rattle.ipam_data.specs.State.{State}
use Rattle.ipam_data.specs.Steps.{plain_step}
use Rattle.ipam_data.specs.Replays.{Entry, replay, is_accepted}
use Rattle.register_core.specs.Kept.{logged}
use Rattle.register_core.specs.Machines.{Seen, kind_of, refusal_kind, pair_of, seen_step}

-- the replay of a state beside what the keeper tells
pub seen_replay : (s : State) (tells : Bool) (log : List (ℕ × Call))
    → machine_replay seen_step (record { state = s; tells = tells }) log ≡ record { state = machine_replay plain_step s log; tells = tells }
seen_replay s tells [] = refl
seen_replay s tells (entry ∷ log) = seen_replay (plain_step s entry.1).0 tells log

-- the reply behind a history is the plain register's ..
pub answer_plainly : (s : Seen) (log : List (ℕ × Call)) (call : Call)
    → (plain_step (machine_replay plain_step s.state log) call).1 ≡ (seen_step (machine_replay seen_step s log) call).1
answer_plainly s log call = ap (λ (x : Seen). (seen_step x call).1) (sym (seen_replay s.state s.tells log))

-- .. and has its legal place where the plain register's has it
pub legal_plainly : (fallible : Reply → Bool) (s : Seen) (history : List (ℕ × Call)) (who : ℕ) (call : Call) (reply : Reply) (kind : ReplyKind) (place : ℕ)
    → IsLegalAt seen_step fallible s history who call reply kind place → IsLegalAt plain_step fallible s.state history who call reply kind place
legal_plainly fallible s history who call reply kind place k =
    record {
      within = k.within;
      right = subst (AnswersAs fallible kind reply) (sym (answer_plainly s (take place history) call)) k.right;
      entry = k.entry;
    }

-- a keeper that goes on as before tells as before
pub tells_still : {A : Type 0} (old new : Option A) → IsSome old ↔ IsSome new → is_some new ≡ is_some old
tells_still None None h = refl
tells_still None (Some y) h = let k : false ≡ true = h.1 refl in cc
tells_still (Some x) None h = let k : false ≡ true = h.0 refl in cc
tells_still (Some x) (Some y) h = refl

-- replay over entries and over pairs is one
pub replay_pairs : (s : State) (log : List Entry) → machine_replay plain_step s (map pair_of log) ≡ replay s log
replay_pairs s [] = refl
replay_pairs s (entry ∷ log) = replay_pairs (plain_step s entry.call).0 log

-- what `act` promises of its answer
abbrev pub IsStep : State → State → Call → Reply → Type 0
IsStep old new call reply = reply ≢ Refused Memory → reply ≢ Refused Keeper → plain_step old call ≡ (new, reply)

told_of : (old new : State) (call : Call) (reply : Reply) → IsStep old new call reply → reply ≢ Refused Memory → reply ≢ Refused Keeper → reply ≡ (plain_step old call).1
told_of old new call reply h m k = sym (ap (λ (p : State × Reply). p.1) (h m k))

-- .. and of a keeper that fails: it was asked to store a change
abbrev pub IsAsked : State → Call → Reply → Type 0
IsAsked old call reply = reply ≡ Refused Keeper → is_accepted (plain_step old call).1 ≡ true

pub answers : (old new : State) (call : Call) (reply : Reply) → IsStep old new call reply → IsAsked old call reply → AnswersAs is_accepted (kind_of reply) reply (plain_step old call).1
answers old new call (Made view) h asked = told_of old new call (Made view) h (λ e. cc) (λ e. cc)
answers old new call (MadeMany views) h asked = told_of old new call (MadeMany views) h (λ e. cc) (λ e. cc)
answers old new call (Changed view) h asked = told_of old new call (Changed view) h (λ e. cc) (λ e. cc)
answers old new call Gone h asked = told_of old new call Gone h (λ e. cc) (λ e. cc)
answers old new call (Imported created present) h asked = told_of old new call (Imported created present) h (λ e. cc) (λ e. cc)
answers old new call (One view) h asked = told_of old new call (One view) h (λ e. cc) (λ e. cc)
answers old new call (Page count views) h asked = told_of old new call (Page count views) h (λ e. cc) (λ e. cc)
answers old new call (Blocks vrf list) h asked = told_of old new call (Blocks vrf list) h (λ e. cc) (λ e. cc)
answers old new call (Addrs vrf len list) h asked = told_of old new call (Addrs vrf len list) h (λ e. cc) (λ e. cc)
answers old new call (Percent figure) h asked = told_of old new call (Percent figure) h (λ e. cc) (λ e. cc)
answers old new call (Rows rows) h asked = told_of old new call (Rows rows) h (λ e. cc) (λ e. cc)
answers old new call (Lines lines) h asked = told_of old new call (Lines lines) h (λ e. cc) (λ e. cc)
answers old new call (Refused BadHead) h asked = told_of old new call (Refused BadHead) h (λ e. cc) (λ e. cc)
answers old new call (Refused (TooLarge part)) h asked = told_of old new call (Refused (TooLarge part)) h (λ e. cc) (λ e. cc)
answers old new call (Refused Coding) h asked = told_of old new call (Refused Coding) h (λ e. cc) (λ e. cc)
answers old new call (Refused NoRoute) h asked = told_of old new call (Refused NoRoute) h (λ e. cc) (λ e. cc)
answers old new call (Refused Method) h asked = told_of old new call (Refused Method) h (λ e. cc) (λ e. cc)
answers old new call (Refused BadJson) h asked = told_of old new call (Refused BadJson) h (λ e. cc) (λ e. cc)
answers old new call (Refused (Field member)) h asked = told_of old new call (Refused (Field member)) h (λ e. cc) (λ e. cc)
answers old new call (Refused (NotFound kind n)) h asked = told_of old new call (Refused (NotFound kind n)) h (λ e. cc) (λ e. cc)
answers old new call (Refused (Breaks rule)) h asked = told_of old new call (Refused (Breaks rule)) h (λ e. cc) (λ e. cc)
answers old new call (Refused (InUse kind n)) h asked = told_of old new call (Refused (InUse kind n)) h (λ e. cc) (λ e. cc)
answers old new call (Refused (NoSpace n)) h asked = told_of old new call (Refused (NoSpace n)) h (λ e. cc) (λ e. cc)
answers old new call (Refused (Limit which n)) h asked = told_of old new call (Refused (Limit which n)) h (λ e. cc) (λ e. cc)
answers old new call (Refused Keeper) h asked = asked refl
answers old new call (Refused Memory) h asked = tt
answers old new call (Refused (Row n why)) h asked = told_of old new call (Refused (Row n why)) h (λ e. cc) (λ e. cc)

grown_refusal : (r : Refusal) (who : ℕ) (call : Call) (log : List (ℕ × Call)) → grown (refusal_kind r) (who, call) log ≡ log
grown_refusal BadHead who call log = refl
grown_refusal (TooLarge part) who call log = refl
grown_refusal Coding who call log = refl
grown_refusal NoRoute who call log = refl
grown_refusal Method who call log = refl
grown_refusal BadJson who call log = refl
grown_refusal (Field member) who call log = refl
grown_refusal (NotFound kind n) who call log = refl
grown_refusal (Breaks rule) who call log = refl
grown_refusal (InUse kind n) who call log = refl
grown_refusal (NoSpace n) who call log = refl
grown_refusal (Limit which n) who call log = refl
grown_refusal Keeper who call log = refl
grown_refusal Memory who call log = refl
grown_refusal (Row n why) who call log = refl

pub grows : (old new : List Entry) (who : ℕ) (call : Call) (reply : Reply) → new ≡ logged old (record { who = who; call = call }) reply
    → map pair_of new ≡ grown (kind_of reply) (who, call) (map pair_of old)
grows old new who call (Made view) h = ap (λ (es : List Entry). map pair_of es) h ∙ map-append pair_of old (record { who = who; call = call } ∷ [])
grows old new who call (MadeMany views) h = ap (λ (es : List Entry). map pair_of es) h ∙ map-append pair_of old (record { who = who; call = call } ∷ [])
grows old new who call (Changed view) h = ap (λ (es : List Entry). map pair_of es) h ∙ map-append pair_of old (record { who = who; call = call } ∷ [])
grows old new who call Gone h = ap (λ (es : List Entry). map pair_of es) h ∙ map-append pair_of old (record { who = who; call = call } ∷ [])
grows old new who call (Imported created present) h = ap (λ (es : List Entry). map pair_of es) h ∙ map-append pair_of old (record { who = who; call = call } ∷ [])
grows old new who call (One view) h = ap (λ (es : List Entry). map pair_of es) h
grows old new who call (Page count views) h = ap (λ (es : List Entry). map pair_of es) h
grows old new who call (Blocks vrf list) h = ap (λ (es : List Entry). map pair_of es) h
grows old new who call (Addrs vrf len list) h = ap (λ (es : List Entry). map pair_of es) h
grows old new who call (Percent figure) h = ap (λ (es : List Entry). map pair_of es) h
grows old new who call (Rows rows) h = ap (λ (es : List Entry). map pair_of es) h
grows old new who call (Lines lines) h = ap (λ (es : List Entry). map pair_of es) h
grows old new who call (Refused r) h = ap (λ (es : List Entry). map pair_of es) h ∙ sym (grown_refusal r who call (map pair_of old))

keeper_of : (r : Refusal) → refusal_kind r ≡ fault → r ≡ Keeper
keeper_of BadHead e = cc
keeper_of (TooLarge part) e = cc
keeper_of Coding e = cc
keeper_of NoRoute e = cc
keeper_of Method e = cc
keeper_of BadJson e = cc
keeper_of (Field member) e = cc
keeper_of (NotFound kind n) e = cc
keeper_of (Breaks rule) e = cc
keeper_of (InUse kind n) e = cc
keeper_of (NoSpace n) e = cc
keeper_of (Limit which n) e = cc
keeper_of Keeper e = refl
keeper_of Memory e = cc
keeper_of (Row n why) e = cc

-- a reply that tells a fault is that of the keeper
pub fault_told : (reply : Reply) → kind_of reply ≡ fault → reply ≡ Refused Keeper
fault_told (Made view) e = cc
fault_told (MadeMany views) e = cc
fault_told (Changed view) e = cc
fault_told Gone e = cc
fault_told (Imported created present) e = cc
fault_told (One view) e = cc
fault_told (Page count views) e = cc
fault_told (Blocks vrf list) e = cc
fault_told (Addrs vrf len list) e = cc
fault_told (Percent figure) e = cc
fault_told (Rows rows) e = cc
fault_told (Lines lines) e = cc
fault_told (Refused r) e = ap Refused (keeper_of r e)
