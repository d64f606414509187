-- The register as a lock sees it: its state, with whether the tables of its keeper are known; which kind each reply has; and an entry as the pair
-- of its fields.
use Rattle.std.specs.Prelude.{ℕ, Bool, Option, is_some}
use Rattle.history_lock.specs.Replies.{ReplyKind, accepted, fault, memory, plain}
use Rattle.ipam_data.specs.declared.calls.Call.{Call}
use Rattle.ipam_data.specs.declared.replies.Refusal.{Refusal}
use Rattle.ipam_data.specs.declared.replies.Refusal.TheVariants.{BadHead, TooLarge, Coding, NoRoute, Method, BadJson, Field, NotFound, Rule as Breaks, InUse, NoSpace, Limit, Keeper, Memory, Row}
use Rattle.ipam_data.specs.declared.replies.Reply.{Reply}
use Rattle.ipam_data.specs.declared.replies.Reply.TheVariants.{Made, MadeMany, Changed, Gone, Imported, One, Page, Blocks, Addrs, Percent, Rows, Lines, Refused}
use Rattle.ipam_data.specs.Replays.{Entry}
use Rattle.ipam_data.specs.State.{State}
use Rattle.ipam_data.specs.Steps.{plain_step}

-- the state of a register, and whether the tables of its keeper are known: once known, they stay known
pub record Seen : Type 0 where
  pub state : State
  pub tells : Bool

-- of a keeper whose known tables are these, or none
abbrev pub seen : {A : Type 0} → State → Option A → Seen
seen state told = record { state = state; tells = is_some told }

-- the plain step, which leaves what is known of the keeper
abbrev pub seen_step : Seen → Call → Seen × Reply
seen_step s call = (record { state = (plain_step s.state call).0; tells = s.tells }, (plain_step s.state call).1)

-- out of memory and a keeper that failed are separate kinds, and every other refusal a plain answer
abbrev pub refusal_kind : Refusal → ReplyKind
refusal_kind BadHead = plain
refusal_kind (TooLarge part) = plain
refusal_kind Coding = plain
refusal_kind NoRoute = plain
refusal_kind Method = plain
refusal_kind BadJson = plain
refusal_kind (Field member) = plain
refusal_kind (NotFound kind n) = plain
refusal_kind (Breaks rule) = plain
refusal_kind (InUse kind n) = plain
refusal_kind (NoSpace n) = plain
refusal_kind (Limit which n) = plain
refusal_kind Keeper = fault
refusal_kind Memory = memory
refusal_kind (Row n why) = plain

-- what changed the register is an accepted change
abbrev pub kind_of : Reply → ReplyKind
kind_of (Made view) = accepted
kind_of (MadeMany views) = accepted
kind_of (Changed view) = accepted
kind_of Gone = accepted
kind_of (Imported created present) = accepted
kind_of (One view) = plain
kind_of (Page count views) = plain
kind_of (Blocks vrf list) = plain
kind_of (Addrs vrf len list) = plain
kind_of (Percent figure) = plain
kind_of (Rows rows) = plain
kind_of (Lines lines) = plain
kind_of (Refused refusal) = refusal_kind refusal

-- the caller's number and its call
abbrev pub pair_of : Entry → ℕ × Call
pair_of entry = (entry.who, entry.call)
