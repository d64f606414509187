-- The rule of the lock: what holds between any two steps of its seats.
-- Word 0 is the ticket, word 1 the turn, word 2 the count, and the others are bells on which waiting seats sleep, of which nothing is said.
-- A ticket lock: D. P. Reed and R. K. Kanodia, Synchronization with Eventcounts and Sequencers (1979).
use Rattle.std.specs.Prelude.{◌≡◌, ◌⊎◌, ℕ, ◌+◌, ◌%◌, ◌^◌, ◌<◌, ◌≤◌, List, [], ◌∷◌, length, map, true, Option, Some}
use mathlib.Core.Option.{none, some}
use mathlib.Core.List.{IsPrefix}
use lib.ListN.{get_elem?}
use Rattle.atomic_table.specs.Table.{State}
use Rattle.history_lock.specs.Replay.{replay, own_entries}
use Rattle.history_lock.specs.Machines.{Meaning, Reaches}
use Rattle.history_lock.specs.Numbers.{holding_of, KeepsNumbers}
use Rattle.history_lock.specs.Views.{tickets_held, HasTicket, HasTurn, tickets_of, weight_of, faults_of}
use Rattle.history_lock.specs.declared.views.View.{View}

-- the sum of a measure over a list
abbrev pub total : {A : Type 0} → (A → ℕ) → List A → ℕ
total f [] = 0
total f (x ∷ xs) = f x + total f xs

-- what the rule says of the seat that has the turn
pub record LeadsHistory {S C : Type 0} (history : List (ℕ × C)) (turned faults : ℕ) (v : View S C) : Type 0 where
  -- its ticket is the turn
  pub mine : HasTicket turned v.stage
  -- it has seen the whole history
  pub all : v.seen ≡ history
  -- the faults of all seats are counted by the machine that it took, until its count is at the last value
  pub total : Reaches (v.base + faults) v.total

-- what the rule says of the seat at this index
pub record FitsRule {S C : Type 0} (history : List (ℕ × C)) (opening : S) (base drawn turned faults : ℕ) (owner : ℕ → ℕ) (j : ℕ) (v : View S C) : Type 0 where
  -- a ticket that it holds is out, and is noted as this seat's
  pub ticket : (t : ℕ) → HasTicket t v.stage → (turned ≤ t) × (t < drawn) × (owner t ≡ j)
  -- a seat with a ticket has a weight, so tickets are never more than weights
  pub heavy : tickets_held v.stage ≤ v.weight
  -- what is said of the seat that has the turn
  pub turn : HasTurn v.stage → LeadsHistory history turned faults v
  -- a live seat knows the opening state and the count of faults of the machine that the lock was made with
  pub start : v.live ≡ true → (v.opening.value ≡ opening) × (v.base ≡ base)
  -- what it has seen begins the history
  pub seen : IsPrefix v.seen history
  -- all entries of a live seat's number are in what it has seen
  pub mine : v.live ≡ true → (own_entries v.number history ≡ v.mine) × (own_entries v.number v.seen ≡ v.mine)
  -- what it heard from another seat begins what it has seen
  pub heard : IsPrefix v.heard v.seen

-- what the rule says of the machine while it is at home
pub record IsAtHome {M S C A : Type 0} (W : Meaning M S C A) (history : List (ℕ × C)) (opening : S) (base faults : ℕ) (x : M) : Type 0 where
  -- its opening state is that of the machine that the lock was made with
  pub same : W.opening x ≡ opening
  -- its state is the replay of the history
  pub state : W.state x ≡ replay W.step opening history
  -- its accepted changes are the history
  pub log : W.log x ≡ history
  -- its count of faults has risen by at least the faults of all seats, until it is at the last value
  pub count : Reaches (base + faults) (W.faults x)

-- a lock's words, its one slot and the views of its seats
abbrev pub Board : Type 0 → Type 0 → Type 0 → Type 0
Board M S C = State (Option M) (View S C)

-- the machine is at home and no seat has the turn, or the slot is with the one seat that has the turn
abbrev pub IsPlaced : {M S C A : Type 0} → Meaning M S C A → M → Board M S C → List (ℕ × C) → Type 0
IsPlaced {S = S} {C = C} W key s history =
    ((x : _) × (s.homes ≡ some (Some x) ∷ []) × IsAtHome W history (W.opening key) (W.faults key) (total faults_of s.views) x × ((j : ℕ) (v : View S C) → get_elem? s.views j ≡ some v → ¬ HasTurn v.stage))
    ⊎ ((s.homes ≡ none ∷ []) × (j : ℕ) × (v : View S C) × (get_elem? s.views j ≡ some v) × HasTurn v.stage)

-- the rule, for a lock that was made with the machine key
pub record KeepsOneHistory {M S C A : Type 0} (W : Meaning M S C A) (key : M) (s : Board M S C) : Type 0 where
  -- the accepted changes since the lock was made
  pub history : List (ℕ × C)
  -- how many tickets were drawn, and how many turns were passed, since the lock was made
  pub drawn : ℕ
  pub turned : ℕ
  -- the index of the seat that drew a ticket
  pub owner : ℕ → ℕ
  -- the words on which waiting seats sleep, whatever is in them
  pub bells : List ℕ
  -- the words are the ticket and the turn modulo 2^64, and the length of the history
  pub words : s.words ≡ drawn % 2 ^ 64 ∷ turned % 2 ^ 64 ∷ length history ∷ bells
  -- as many tickets are out as the seats hold
  pub few : turned + total tickets_of s.views ≡ drawn
  -- the weights of all seats add up to 65,536
  pub weights : total weight_of s.views ≡ 65536
  -- each ticket from the turn up to the last that was drawn is held by the seat that drew it
  pub stands : (t : ℕ) → turned ≤ t → t < drawn → (v : View S C) × (get_elem? s.views (owner t) ≡ some v) × HasTicket t v.stage
  -- what is said of each seat
  pub each : (j : ℕ) (v : View S C) → get_elem? s.views j ≡ some v → FitsRule history (W.opening key) (W.faults key) drawn turned (total faults_of s.views) owner j v
  -- where the machine is
  pub place : IsPlaced W key s history
  -- some live seat has seen the whole history
  pub whole : (j : ℕ) × (v : View S C) × (get_elem? s.views j ≡ some v) × (v.live ≡ true) × (v.seen ≡ history)
  -- under which numbers the seats call
  pub numbers : KeepsNumbers history (map holding_of s.views)
