-- What each kind of step on the lock's words shows the seat that makes it. A token is a seat's view and the slots that it carries, as (view, slots).
use Rattle.std.specs.Prelude.{◌≡◌, ◌≢◌, ℕ, ◌%◌, ◌^◌, List, [], ◌∷◌, true, Option, Some}
use mathlib.Core.List.{IsPrefix}
use Rattle.atomic_table.specs.Table.{Me, Step}
use Rattle.history_lock.specs.Replies.{ReplyKind}
use Rattle.history_lock.specs.Replay.{replay, own_entries}
use Rattle.history_lock.specs.Machines.{Meaning}
use Rattle.history_lock.specs.Views.{waiting, rested, offering, leading, told, IsSoundView}
use Rattle.history_lock.specs.declared.views.View.{View}
use Rattle.history_lock.specs.declared.views.Stage.TheVariants.{Waits}

-- a seat's view, and the slots that it carries
abbrev pub Token : Type 0 → Type 0 → Type 0 → Type 0
Token M S C = Me (Option M) (View S C)

-- a step on a word of the lock
abbrev pub Move : Type 0 → Type 0
Move M = Step (Option M)

-- what a seat whose turn has come knows of the machine that it took
pub record IsTaken {M S C A : Type 0} (W : Meaning M S C A) (v : View S C) (x : M) : Type 0 where
  -- its opening state is the one that the seat knows
  pub same : W.opening x ≡ v.opening.value
  -- its state is the replay of its accepted changes
  pub state : W.state x ≡ replay W.step v.opening.value (W.log x)
  -- what the seat has seen begins its accepted changes
  pub more : IsPrefix v.seen (W.log x)
  -- the seat's own entries are those that it has seen
  pub mine : v.live ≡ true → own_entries v.number (W.log x) ≡ own_entries v.number v.seen
  -- a seat that has all the weight has seen all
  pub alone : v.weight ≡ 65536 → W.log x ≡ v.seen

module _ {M S C : Type 0} where
  -- draw: the number found is that of a ticket, which the seat now holds
  abbrev pub HasDrawn : Move M → Token M S C → ℕ → Token M S C → Type 0
  HasDrawn st m n m' = (t : ℕ) × (n ≡ t % 2 ^ 64) × (m' ≡ (waiting t m.0, m.1))

  -- look: if the number found is the seat's ticket, the seat has the turn and takes the machine; else nothing changes
  abbrev pub HasLooked : {A : Type 0} → Meaning M S C A → Move M → Token M S C → ℕ → Token M S C → Type 0
  HasLooked W st m n m' = (t : ℕ) → m.0.stage ≡ Waits t
      → (n ≢ t % 2 ^ 64 → m' ≡ m) × (n ≡ t % 2 ^ 64 → (x : M) × IsTaken W m.0 x × (m' ≡ (leading W t x m.0, (0, Some x) ∷ m.1)))

  -- publish: what the seat's call did is in its view
  abbrev pub HasPublished : List (ReplyKind × C) → Move M → Token M S C → ℕ → Token M S C → Type 0
  HasPublished done st m n m' = (k : ReplyKind) (c : C) → done ≡ (k, c) ∷ [] → m' ≡ (told k c m.0, m.1)

  -- pass: the seat holds no ticket and carries no slot
  abbrev pub HasPassed : Move M → Token M S C → ℕ → Token M S C → Type 0
  HasPassed st m n m' = m' ≡ (rested m.0, [])

  -- ring: a step on a bell changes no view
  abbrev pub HasRung : Move M → Token M S C → ℕ → Token M S C → Type 0
  HasRung st m n m' = m' ≡ m

  -- offer: a compare-exchange of a number with itself changes no word, and the number is the share of the next split
  abbrev pub HasOffered : Move M → Token M S C → ℕ → Token M S C → Type 0
  HasOffered st m n m' = m' ≡ (offering st.first m.0, m.1)

  -- learn: a load shows what the rule says of the seat's own view
  abbrev pub HasLearned : Move M → Token M S C → ℕ → Token M S C → Type 0
  HasLearned st m n m' = (m' ≡ m) × IsSoundView m.0
