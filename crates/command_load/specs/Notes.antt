-- What the caller of one seat notes while the others' calls are not known yet.
use Rattle.std.specs.Prelude.{◌≡◌, ◌≢◌, ℕ, ◌+◌, ◌≤◌, Bool, List, [], ◌∷◌, Some, length, map, Contains, min, max}
use Rattle.std.specs.List.{AllByRecursion}
use mathlib.Core.List.{IsPrefix}
use Rattle.history_lock.specs.Replies.{accepted}
use Rattle.history_lock.specs.Replay.{own_entries}
use Rattle.history_lock.specs.Places.{IsLegalAt}
use Rattle.history_lock.specs.Seats.{SeatView, IsCall}
use Rattle.ipam_data.specs.declared.calls.Call.{Call}
use Rattle.ipam_data.specs.declared.replies.Reply.{Reply}
use Rattle.ipam_data.specs.State.{empty_state}
use Rattle.ipam_data.specs.Replays.{is_accepted}
use Rattle.ipam_data.specs.Steps.{plain_step}
use Rattle.register_core.specs.Machines.{Seen, seen_step}
use Rattle.command_load.specs.LoadText.{load_address}
use Rattle.command_load.specs.Claims.{claim_of_one, creation_of}
use Rattle.command_load.specs.Histories.{AreClaims, AreShared, IsLoadHistory, HasRoomFor, own_places}
use Rattle.command_load.specs.Replies.{address_in}
use Rattle.command_load.specs.Tallies.{IsTallyOf}

-- an accepted claim of the caller with this number: the number of the address that it got, and its legal place in a history
pub record IsGot (unique : Bool) (history : List (ℕ × Call)) (number : ℕ) (note : ℕ × ℕ) : Type 0 where
  pub reply : Reply
  pub tells : address_in reply ≡ Some note.0
  pub legal : IsLegalAt plain_step is_accepted (empty_state unique) history number claim_of_one reply accepted note.1

-- the least and the greatest noted number; of no notes these are `most` and 0
abbrev pub least_among : ℕ → List (ℕ × ℕ) → ℕ
least_among most [] = most
least_among most (note ∷ notes) = min note.0 (least_among most notes)

abbrev pub greatest_among : List (ℕ × ℕ) → ℕ
greatest_among [] = 0
greatest_among (note ∷ notes) = max note.0 (greatest_among notes)

-- the caller of a seat made claims alone: how many were accepted, and the least and the greatest number of an address that they got
pub record IsNoted (unique : Bool) (most : ℕ) (v : SeatView Seen Call) (claimed least greatest : ℕ) : Type 0 where
  pub opening : v.opening.state ≡ empty_state unique
  pub claims : AreClaims (own_entries v.number v.seen)
  pub notes : List (ℕ × ℕ)
  pub places : own_places v.number 0 v.seen ≡ map (λ n. n.1) notes
  pub got : AllByRecursion (IsGot unique v.seen v.number) notes
  pub count : claimed ≡ length (own_entries v.number v.seen)
  pub least_is : least ≡ least_among most notes
  pub greatest_is : greatest ≡ greatest_among notes

-- one more accepted claim is noted
abbrev pub ClaimIsNoted : Type 0
ClaimIsNoted = (unique : Bool) (most : ℕ) (v w : SeatView Seen Call) (claimed least greatest value place : ℕ) (reply : Reply) → IsNoted unique most v claimed least greatest
    → IsCall seen_step is_accepted v w claim_of_one reply accepted place → address_in reply ≡ Some value → value ≤ most → IsNoted unique most w (claimed + 1) (min least value) (max greatest value)

-- in the history that all share, the notes are the caller's tally
abbrev pub NotesAreTally : Type 0
NotesAreTally = (unique : Bool) (len most : ℕ) (history : List (ℕ × Call)) (v : SeatView Seen Call) (claimed least greatest : ℕ) (h : IsLoadHistory len history) → HasRoomFor len (length history)
    → IsNoted unique most v claimed least greatest → IsPrefix v.seen history → own_entries v.number history ≡ own_entries v.number v.seen → h.maker ≢ v.number
    → (load_address (length history)).value ≤ most → IsTallyOf history (v.number ∷ []) claimed least greatest

-- if the prefix was made first, and each other entry is of a caller that made claims alone, those are claims
abbrev pub OthersMakeClaims : Type 0
OthersMakeClaims = (len maker : ℕ) (claims : List (ℕ × Call)) (numbers : List ℕ) → length (own_entries maker ((maker, creation_of len) ∷ claims)) ≡ 1
    → AreShared (maker ∷ numbers) ((maker, creation_of len) ∷ claims) → ((n : ℕ) → Contains numbers n → AreClaims (own_entries n ((maker, creation_of len) ∷ claims)))
    → AreClaims claims

pub record NotesOfOne : Type 0 where
  pub more : ClaimIsNoted
  pub tally : NotesAreTally
  pub others : OthersMakeClaims
