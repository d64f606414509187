-- What a seat's view becomes by each step, and what the rule says of one view by itself.
use Rattle.std.specs.Prelude.{◌≡◌, ℕ, ◌+◌, ◌-◌, ◌≤◌, List, [], ◌∷◌, ◌++◌, length, true, false, cond, nat_lt}
use mathlib.Core.List.{IsPrefix}
use Rattle.history_lock.specs.Replies.{ReplyKind, grown, failures_of}
use Rattle.history_lock.specs.Replay.{own_entries}
use Rattle.history_lock.specs.Machines.{Meaning}
use Rattle.history_lock.specs.declared.views.View.{View}
use Rattle.history_lock.specs.declared.views.Stage.{Stage}
use Rattle.history_lock.specs.declared.views.Stage.TheVariants.{Idle, Waits, Turns}

-- how many tickets a seat at this stage holds
abbrev pub tickets_held : Stage → ℕ
tickets_held Idle = 0
tickets_held (Waits t) = 1
tickets_held (Turns t) = 1

-- the seat at this stage holds this ticket
abbrev pub HasTicket : ℕ → Stage → Type 0
HasTicket t Idle = ⊥
HasTicket t (Waits u) = t ≡ u
HasTicket t (Turns u) = t ≡ u

-- the seat at this stage has the turn
abbrev pub HasTurn : Stage → Type 0
HasTurn Idle = ⊥
HasTurn (Waits u) = ⊥
HasTurn (Turns u) = Unit {0}

-- the longer of two lists
abbrev pub longer : {C : Type 0} → List (ℕ × C) → List (ℕ × C) → List (ℕ × C)
longer xs ys = cond (nat_lt (length xs) (length ys)) ys xs

-- the shorter of two lists
abbrev pub shorter : {C : Type 0} → List (ℕ × C) → List (ℕ × C) → List (ℕ × C)
shorter xs ys = cond (nat_lt (length xs) (length ys)) xs ys

module _ {S C : Type 0} where
  -- how many tickets the seat with this view holds
  abbrev pub tickets_of : View S C → ℕ
  tickets_of v = tickets_held v.stage

  -- the weight of the seat with this view
  abbrev pub weight_of : View S C → ℕ
  weight_of v = v.weight

  -- the faults that the seat with this view met
  abbrev pub faults_of : View S C → ℕ
  faults_of v = v.faults

  -- the view once its seat has drawn this ticket
  abbrev pub waiting : ℕ → View S C → View S C
  waiting t v = record v { stage = Waits t }

  -- the view once its seat has passed the turn on
  abbrev pub rested : View S C → View S C
  rested v = record v { stage = Idle }

  -- the view with the share that a split is to give away
  abbrev pub offering : ℕ → View S C → View S C
  offering k v = record v { offer = k }

  -- the view of the seat that was split, without the share
  abbrev pub kept_part : View S C → View S C
  kept_part v = record v { spare = v.spare - v.offer; weight = v.weight - v.offer; offer = 0 }

  -- the view of the new seat: its number is the old one's number plus the spare that the old one keeps
  abbrev pub new_part : View S C → View S C
  new_part v = record v { live = true; number = v.number + (v.spare - v.offer); spare = v.offer; weight = v.offer; faults = 0; ended = []; stage = Idle; total = 0; offer = 0; heard = []; mine = [] }

  -- the view of the left seat of a join
  abbrev pub joined : View S C → View S C → View S C
  joined v w = record v { weight = v.weight + w.weight; seen = longer v.seen w.seen; heard = shorter v.seen w.seen; faults = v.faults + w.faults; ended = (v.ended ++ w.ended) ++ (w.number, w.mine) ∷ [] }

  -- the view that is left of the right seat of a join
  abbrev pub spent_view : S → View S C
  spent_view s = record { live = false; number = 0; spare = 0; weight = 0; opening = record { marker = record {}; value = s }; base = 0; seen = []; faults = 0; ended = []; stage = Idle; total = 0; offer = 0; heard = []; mine = [] }

module _ {M S C A : Type 0} where
  -- the view of the first seat of a lock over this machine
  abbrev pub first_view : Meaning M S C A → M → View S C
  first_view W key = record { live = true; number = 0; spare = 65536; weight = 65536; opening = record { marker = record {}; value = W.opening key }; base = W.faults key; seen = []; faults = 0; ended = []; stage = Idle; total = 0; offer = 0; heard = []; mine = [] }

  -- the view of a seat whose ticket's turn has come, which took this machine
  abbrev pub leading : Meaning M S C A → ℕ → M → View S C → View S C
  leading W t x v = record v { stage = Turns t; seen = W.log x; total = W.faults x }

-- the view once the count shows what the call did
abbrev pub told : {S C : Type 0} → ReplyKind → C → View S C → View S C
told kind c v = record v { seen = grown kind (v.number, c) v.seen; faults = v.faults + failures_of kind; total = v.total + failures_of kind; mine = grown kind (v.number, c) v.mine }

-- what the rule says of a live view by itself
pub record IsSoundView {S C : Type 0} (v : View S C) : Type 0 where
  -- no seat weighs more than all seats together
  pub weight : v.weight ≤ 65536
  -- its spare is at least 1, and at most its weight
  pub spare : (1 ≤ v.spare) × (v.spare ≤ v.weight)
  -- its numbers are below 65,536
  pub numbers : v.number + v.spare ≤ 65536
  -- what it heard from another seat begins what it has seen
  pub heard : IsPrefix v.heard v.seen
  -- all entries that it made are in what it has seen
  pub mine : own_entries v.number v.seen ≡ v.mine
