-- What the reply to a call of a seat says of what the seat has seen.
use Rattle.std.proofs.Common.{◌≡◌, ◌+◌, ◌≤◌, ℕ, [], ◌∷◌, ◌++◌, length, true, Option, Some, None, IfSome, min, max, refl, sym, ap, ◌∙◌, subst}
use Rattle.std.specs.Prelude.{take}
use Rattle.history_lock.specs.Replies.{ReplyKind, accepted}
use Rattle.history_lock.specs.Seats.{IsCall, IsSameSeat}
use Rattle.ipam_data.specs.declared.calls.Call.{Call}
use Rattle.ipam_data.specs.declared.replies.Reply.{Reply}
use Rattle.ipam_data.specs.declared.replies.Reply.TheVariants.{Made, MadeMany, Changed, Gone, Imported, One, Page, Blocks, Addrs, Percent, Rows, Lines, Refused}
use Rattle.ipam_data.specs.Replays.{is_accepted}
use Rattle.register_core.specs.Machines.{kind_of, seen_step}
use Rattle.command_load.specs.Claims.{claim_of_one}
use Rattle.command_load.specs.Replies.{address_in, is_made_in}
use Rattle.command_load.proofs.Notes.{one_noted}
use Rattle.command_load.specs.Hired.{Caller, Notes, last_of_v4}

-- a row was made where the change was accepted
made_kind : (reply : Reply) → is_made_in reply ≡ true → kind_of reply ≡ accepted
made_kind (Made view) is = refl
made_kind (MadeMany views) is = absurd (cc is)
made_kind (Changed view) is = absurd (cc is)
made_kind Gone is = absurd (cc is)
made_kind (Imported created present) is = absurd (cc is)
made_kind (One view) is = absurd (cc is)
made_kind (Page count views) is = absurd (cc is)
made_kind (Blocks vrf list) is = absurd (cc is)
made_kind (Addrs vrf len list) is = absurd (cc is)
made_kind (Percent figure) is = absurd (cc is)
made_kind (Rows rows) is = absurd (cc is)
made_kind (Lines lines) is = absurd (cc is)
made_kind (Refused refusal) is = absurd (cc is)

-- so was a reply with an address
address_kind : (reply : Reply) (value : ℕ) → address_in reply ≡ Some value → kind_of reply ≡ accepted
address_kind (Made view) value is = refl
address_kind (MadeMany views) value is = absurd (cc is)
address_kind (Changed view) value is = absurd (cc is)
address_kind Gone value is = absurd (cc is)
address_kind (Imported created present) value is = absurd (cc is)
address_kind (One view) value is = absurd (cc is)
address_kind (Page count views) value is = absurd (cc is)
address_kind (Blocks vrf list) value is = absurd (cc is)
address_kind (Addrs vrf len list) value is = absurd (cc is)
address_kind (Percent figure) value is = absurd (cc is)
address_kind (Rows rows) value is = absurd (cc is)
address_kind (Lines lines) value is = absurd (cc is)
address_kind (Refused refusal) value is = absurd (cc is)

-- the first accepted call of a seat beside which no other is live is all that it has seen
accepted_first : (v w : Caller) (call : Call) (reply : Reply) (place : ℕ) → IsCall seen_step is_accepted v w call reply accepted place → v.weight ≡ 65536 → v.seen ≡ []
    → w.seen ≡ (v.number, call) ∷ []
accepted_first v w call reply place c whole none =
    c.seen_ends_at_place ∙ ap (λ (n : ℕ). take n w.seen ++ (v.number, call) ∷ []) (c.alone_misses_nothing whole ∙ ap length none)

pub made_first : (v w : Caller) (call : Call) (reply : Reply) (place : ℕ) → IsCall seen_step is_accepted v w call reply (kind_of reply) place → v.weight ≡ 65536 → v.seen ≡ []
    → is_made_in reply ≡ true → w.seen ≡ (v.number, call) ∷ []
made_first v w call reply place c whole none is =
    accepted_first v w call reply place (subst (λ (k : ReplyKind). IsCall seen_step is_accepted v w call reply k place) (made_kind reply is) c) whole none

-- a claim that got an address of IPv4 is noted
claim_got : (v w : Caller) (reply : Reply) (place value : ℕ) → IsCall seen_step is_accepted v w claim_of_one reply (kind_of reply) place → address_in reply ≡ Some value → value ≤ last_of_v4
    → (claimed least greatest : ℕ) → Notes v claimed least greatest → Notes w (claimed + 1) (min least value) (max greatest value)
claim_got v w reply place value c is le claimed least greatest k =
    one_noted true last_of_v4 v w claimed least greatest value place reply k
    (subst (λ (x : ReplyKind). IsCall seen_step is_accepted v w claim_of_one reply x place) (address_kind reply value is) c) is le

pub claim_noted : (v w : Caller) (call : Call) (reply : Reply) (place : ℕ) (got o : Option ℕ) → IsCall seen_step is_accepted v w call reply (kind_of reply) place → call ≡ claim_of_one → got ≡ address_in reply
    → IfSome o (λ value. (got ≡ Some value) × (value ≤ last_of_v4))
    → (claimed least greatest : ℕ) → Notes v claimed least greatest
    → IfSome o (λ value. Notes w (claimed + 1) (min least value) (max greatest value))
claim_noted v w call reply place got None c is told within claimed least greatest k = tt
claim_noted v w call reply place got (Some value) c is told within claimed least greatest k =
    claim_got v w reply place value (subst (λ (x : Call). IsCall seen_step is_accepted v w x reply (kind_of reply) place) is c) (sym told ∙ within.0) within.1 claimed least greatest k

-- notes said by equal numbers
pub renoted : (v : Caller) (c l g a b d : ℕ) → a ≡ c → b ≡ l → d ≡ g → Notes v c l g → Notes v a b d
renoted v c l g a b d ac bl dg t =
    subst (λ (x : ℕ). Notes v x b d) (sym ac)
    (subst (λ (x : ℕ). Notes v c x d) (sym bl)
    (subst (λ (x : ℕ). Notes v c l x) (sym dg) t))

-- two calls, one after the other, leave the seat the same
pub same_on : (u v w : Caller) → IsSameSeat u v → IsSameSeat v w → IsSameSeat u w
same_on u v w a b = (b.0 ∙ a.0, b.1 ∙ a.1, b.2 ∙ a.2, b.3 ∙ a.3, b.4 ∙ a.4, b.5 ∙ a.5, b.6 ∙ a.6)
