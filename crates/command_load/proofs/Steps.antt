-- What one call does behind so many claims.
use Rattle.std.proofs.Common.{◌≡◌, ℕ, suc, ◌+◌, ◌-◌, ◌^◌, ◌<◌, ◌≤◌, ◌==◌, ◌&&◌, nat_le, nat_lt, Bool, true, false, not, List, [], ◌∷◌, length, map, None, refl, ap, sym, ◌∙◌, arith}
use Rattle.std.proofs.lemmas.Bool.Decides.{nat_tests}
use Rattle.inet_num.specs.Count.{addresses_of}
use Rattle.block_space.specs.Usable.{usable_of, is_usable, is_omitted}
use Rattle.ipam_data.specs.declared.address.IpAddress.{IpAddress}
use Rattle.ipam_data.specs.declared.replies.Reply.{Reply}
use Rattle.ipam_data.specs.declared.replies.Reply.TheVariants.{Made}
use Rattle.ipam_data.specs.declared.replies.View.TheVariants.{IpAddress as AddressView}
use Rattle.ipam_data.specs.HostNames.{is_dns_name}
use Rattle.ipam_data.specs.Prefixes.{prefix_fault, depth_of, children_of}
use Rattle.ipam_data.specs.Rows.{address_id, most_addresses}
use Rattle.ipam_data.specs.State.{State, Plan, verdict_of}
use Rattle.ipam_data.specs.Updates.{outcome, updated, answered}
use Rattle.ipam_data.specs.Replays.{replay}
use Rattle.ipam_data.specs.Claims.{is_hosted, is_withheld, usable_in, claim_addresses_of}
use Rattle.ipam_data.specs.declared.calls.Answered.TheVariants.{AsOne}
use Rattle.inet_num.specs.declared.Family.TheVariants.{V4}
use Rattle.ipam_data.proofs.RowLists.{with_row_above}
use Rattle.command_load.specs.LoadText.{load_first}
use Rattle.command_load.specs.Claims.{block_of, prefix_row, address_row, address_rows, claimed_state, one_address, PrefixIsMade, NextClaimGetsNextAddress, ClaimsLeadToState, claim_entry}
use Rattle.command_load.proofs.Runs.{first_passes}
use Rattle.command_load.proofs.Hosts.{hosted, many, below}

-- ---- the next address

abbrev usable_now : ℕ → ℕ → ℕ → Bool
usable_now len k = is_usable (is_hosted (address_rows len k) (prefix_row len)) (is_withheld [] (prefix_row len)) (block_of len) false

usable_by : (t u : Bool) → t ≡ u → (len a : ℕ) → (not t && not false && not (is_omitted (block_of len) false a)) ≡ (not u && not false && not (is_omitted (block_of len) false a))
usable_by t u e len a = ap (λ (v : Bool). not v && not false && not (is_omitted (block_of len) false a)) e

before_next : (len k i : ℕ) → len ≤ 30 → suc k + 1 < 2 ^ (32 - len) → i < suc k → usable_now len k (load_first + i) ≡ false
before_next len k i short room h =
    let e = hosted len k (load_first + i) (omega arith) in
    usable_by (is_hosted (address_rows len k) (prefix_row len) (load_first + i)) (nat_le (load_first + 1) (load_first + i) && nat_lt (load_first + i) (load_first + k + 1)) e len (load_first + i)
    ∙ grind (arith, nat_tests)

next_usable : (len k : ℕ) → len ≤ 30 → suc k + 1 < 2 ^ (32 - len) → usable_now len k (load_first + suc k) ≡ true
next_usable len k short room =
    let e = hosted len k (load_first + suc k) (omega arith) in
    usable_by (is_hosted (address_rows len k) (prefix_row len) (load_first + suc k)) (nat_le (load_first + 1) (load_first + suc k) && nat_lt (load_first + suc k) (load_first + k + 1)) e len (load_first + suc k)
    ∙ grind (arith, nat_tests)

next_first : (unique : Bool) (len k : ℕ) → len ≤ 30 → suc k + 1 < 2 ^ (32 - len) → (rest : List ℕ) × (usable_in (claimed_state unique len k) (prefix_row len) ≡ (load_first + suc k) ∷ rest)
unfolding usable_of addresses_of
next_first unique len k short room =
    first_passes (usable_now len k) (suc k) load_first (2 ^ (32 - len)) (omega arith) (λ i h. before_next len k i short room h) (next_usable len k short room)

-- ---- the plan

outcome_done : (s : State) (plan : Plan) → verdict_of plan ≡ None → outcome s plan ≡ (updated s plan.update, answered (updated s plan.update) plan.reply)
outcome_done s plan v = rw (v, outcome) refl

no_refusal : (unique : Bool) (len k : ℕ) (rest : List ℕ) → k < most_addresses → verdict_of (claim_addresses_of (claimed_state unique len k) AsOne (one_address ∷ []) None len V4 ((load_first + suc k) ∷ rest)) ≡ None
unfolding is_dns_name
no_refusal unique len k rest few =
    let count = many len k in
    let seats : nat_le (length (address_rows len k) + 1) most_addresses ≡ true = (let le : length (address_rows len k) + 1 ≤ most_addresses = omega arith in grind (arith, nat_tests)) in
    let ids : nat_le (suc k + 1) 4294967295 ≡ true = (let le : suc k + 1 ≤ 4294967295 = omega arith in grind (arith, nat_tests)) in
    let log : nat_le (suc k + 1) 1000000 ≡ true = (let le : suc k + 1 ≤ 1000000 = omega arith in grind (arith, nat_tests)) in
    rw (seats, ids, log) refl

-- ---- the claim

abbrev state_of : Bool → ℕ → List IpAddress → ℕ → State
state_of unique len rows next = record (claimed_state unique len 0) { addresses = record { rows = rows; next = next }; spent = next }

abbrev told : ℕ → ℕ → Reply
told len k = Made (AddressView (address_row len (suc k)))

pub claim_next : NextClaimGetsNextAddress
claim_next unique len k short room few =
    let n = next_first unique len k short room in
    ap (λ (usable : List ℕ). outcome (claimed_state unique len k) (claim_addresses_of (claimed_state unique len k) AsOne (one_address ∷ []) None len V4 usable)) n.1
    ∙ outcome_done (claimed_state unique len k) (claim_addresses_of (claimed_state unique len k) AsOne (one_address ∷ []) None len V4 ((load_first + suc k) ∷ n.0)) (no_refusal unique len k n.0 few)
    ∙ ap (λ (rows : List IpAddress). (state_of unique len rows (suc k + 1), told len k)) (with_row_above address_id (address_rows len k) (address_row len (suc k)) (below len k (suc k) (omega arith)))
    ∙ (let on : suc k + 1 ≡ suc (suc k) = omega arith in ap (λ (m : ℕ). (state_of unique len (address_rows len (suc k)) m, told len k)) on)

-- ---- the creation

not_below : (len : ℕ) → nat_lt len len ≡ false
not_below len = grind (arith, nat_tests)

pub made_first : PrefixIsMade
unfolding prefix_fault depth_of children_of
made_first true len some = (let e : (len == 0) ≡ false = grind (arith, nat_tests) in rw (e, not_below len) refl)
made_first false len some = (let e : (len == 0) ≡ false = grind (arith, nat_tests) in rw (e, not_below len) refl)

-- ---- all of them

claims_on : (unique : Bool) (len k : ℕ) (callers : List ℕ) → len ≤ 30 → k + length callers + 1 < 2 ^ (32 - len) → k + length callers ≤ most_addresses
    → replay (claimed_state unique len k) (map claim_entry callers) ≡ claimed_state unique len (k + length callers)
claims_on unique len k [] short room few = (let e : k + 0 ≡ k = omega arith in ap (claimed_state unique len) (sym e))
claims_on unique len k (who ∷ callers) short room few =
    let on : suc k + length callers ≡ k + suc (length callers) = omega arith in
    ap (λ (p : State × Reply). replay p.0 (map claim_entry callers)) (claim_next unique len k short (omega arith) (omega arith))
    ∙ claims_on unique len (suc k) callers short (omega arith) (omega arith)
    ∙ ap (claimed_state unique len) on

pub claims_lead : ClaimsLeadToState
claims_lead unique len maker callers some short room few =
    let e : 0 + length callers ≡ length callers = omega arith in
    ap (λ (p : State × Reply). replay p.0 (map claim_entry callers)) (made_first unique len some)
    ∙ claims_on unique len 0 callers short (omega arith) (omega arith)
    ∙ ap (claimed_state unique len) e
