-- Histories of many callers in which one prefix is made and addresses of it are claimed, as the lock keeps them: an entry is a caller's number
-- and its call.
use Rattle.std.specs.Prelude.{◌≡◌, ℕ, ◌+◌, ◌-◌, ◌^◌, ◌<◌, ◌≤◌, ◌==◌, ◌++◌, Bool, List, [], ◌∷◌, length, count_by, sum_by, if◌then◌else◌}
use Rattle.std.specs.List.{AllByRecursion}
use mathlib.Core.List.{IsPrefix}
use Rattle.history_lock.specs.Replies.{accepted}
use Rattle.history_lock.specs.Replay.{replay, own_entries}
use Rattle.history_lock.specs.Places.{IsLegalAt}
use Rattle.history_lock.specs.Seats.{SeatView, IsCall}
use Rattle.ipam_data.specs.declared.calls.Call.{Call}
use Rattle.ipam_data.specs.declared.replies.Reply.{Reply}
use Rattle.ipam_data.specs.declared.replies.Reply.TheVariants.{Made}
use Rattle.ipam_data.specs.declared.replies.View.TheVariants.{IpAddress as AddressView}
use Rattle.ipam_data.specs.Rows.{most_addresses}
use Rattle.ipam_data.specs.State.{State, empty_state}
use Rattle.ipam_data.specs.Replays.{is_accepted}
use Rattle.ipam_data.specs.Steps.{plain_step}
use Rattle.register_core.specs.Machines.{Seen, seen_step}
use Rattle.command_load.specs.Claims.{creation_of, claim_of_one, claimed_state, address_row}

-- the call of each entry is a claim of one address
abbrev pub AreClaims : List (ℕ × Call) → Type 0
AreClaims entries = AllByRecursion (λ e. e.1 ≡ claim_of_one) entries

-- the prefix of this length was made first, and then claims alone were made
pub record IsLoadHistory (len : ℕ) (history : List (ℕ × Call)) : Type 0 where
  pub maker : ℕ
  pub claims : List (ℕ × Call)
  pub is : history ≡ (maker, creation_of len) ∷ claims
  pub each : AreClaims claims

-- the prefix has an address for each entry that such a history may have, and one more
pub record HasRoomFor (len entries : ℕ) : Type 0 where
  pub low : 1 ≤ len
  pub high : len ≤ 30
  pub block : entries + 1 < 2 ^ (32 - len)
  pub limit : entries ≤ most_addresses

-- after such a history the register is the one of the number of claims
abbrev pub HistoryLeadsToState : Type 0
HistoryLeadsToState = (unique : Bool) (len : ℕ) (history : List (ℕ × Call)) (h : IsLoadHistory len history) → HasRoomFor len (length history)
    → replay plain_step (empty_state unique) history ≡ claimed_state unique len (length h.claims)

-- whoever claimed: an accepted claim that is at place n of such a history, after the creation, got address n
abbrev pub PlaceSaysAddress : Type 0
PlaceSaysAddress = (unique : Bool) (len : ℕ) (history : List (ℕ × Call)) (who : ℕ) (reply : Reply) (place : ℕ) → IsLoadHistory len history → HasRoomFor len (length history)
    → 1 ≤ place → IsLegalAt plain_step is_accepted (empty_state unique) history who claim_of_one reply accepted place
    → reply ≡ Made (AddressView (address_row len place))

-- ---- whose entry is where

module _ {C : Type 0} where
  -- the places of the entries with this caller's number, the first entry being counted so
  abbrev pub own_places : ℕ → ℕ → List (ℕ × C) → List ℕ
  own_places number from [] = []
  own_places number from (entry ∷ entries) = if entry.0 == number then from ∷ own_places number (from + 1) entries else own_places number (from + 1) entries

  -- each entry bears just one of these numbers
  abbrev pub AreShared : List ℕ → List (ℕ × C) → Type 0
  AreShared numbers entries = AllByRecursion (λ e. count_by (λ n. e.0 == n) numbers ≡ 1) entries

-- the entries of all numbers together are the history
abbrev pub SharesAddUp : Type 0
SharesAddUp = (numbers : List ℕ) (history : List (ℕ × Call)) → AreShared numbers history → length history ≡ sum_by (λ n. length (own_entries n history)) numbers

-- an accepted call has the next place of its caller
abbrev pub CallHasNextPlace : Type 0
CallHasNextPlace = (v w : SeatView Seen Call) (call : Call) (reply : Reply) (place : ℕ) → IsCall seen_step is_accepted v w call reply accepted place
    → own_places v.number 0 w.seen ≡ own_places v.number 0 v.seen ++ place ∷ []

-- if no entry of a caller was added, its places stay
abbrev pub PlacesStay : Type 0
PlacesStay = (number : ℕ) (before after : List (ℕ × Call)) → IsPrefix before after → own_entries number after ≡ own_entries number before
    → own_places number 0 after ≡ own_places number 0 before

-- claims of many callers
pub record ClaimsOfMany : Type 0 where
  pub state : HistoryLeadsToState
  pub address : PlaceSaysAddress
  pub shares : SharesAddUp
  pub next : CallHasNextPlace
  pub stay : PlacesStay
