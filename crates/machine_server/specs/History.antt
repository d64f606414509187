-- One history of a machine that many workers served, and each worker's part in it.
use Rattle.std.specs.Prelude.{◌≡◌, ◌+◌, ◌++◌, ℕ, List, [], ◌∷◌, map, All, Contains, IfSome, sum_by}
use Rattle.history_lock.specs.Machines.{Reaches}
use Rattle.history_lock.specs.Replay.{own_entries}
use Rattle.ipam_listen.specs.Connections.{Connection, Returned}
use Rattle.machine_session.specs.Protocols.{Protocol}
use Rattle.machine_session.specs.Told.{Standing, answers_in, newcomer}
use Rattle.http_lanes.specs.Served.{AreServed}

-- what one worker did: the number of its seat, the connections that it served, one after another, and what their answers led to
pub record Shift (C : Type 0) : Type 0 where
  pub number : ℕ
  pub connections : List Connection
  pub reached : Standing C

-- its connections were answered out of this history, and no place before the first
abbrev pub IsShift : {S C A B W E : Type 0} → Protocol S C A B W E → S → List (ℕ × C) → Shift C → Type 0
IsShift P opening history shift = AreServed (answers_in P opening history shift.number) shift.connections newcomer shift.reached

-- the history has for the worker's number exactly the changes that its answers accepted, in order
abbrev pub HasItsChanges : {C : Type 0} → List (ℕ × C) → Shift C → Type 0
HasItsChanges history shift = own_entries shift.number history ≡ shift.reached.made

-- they have numbers one after the other
abbrev pub AreNumberedFrom : {C : Type 0} → ℕ → List (Shift C) → Type 0
AreNumberedFrom n [] = Unit {0}
AreNumberedFrom n (shift ∷ shifts) = (shift.number ≡ n) × AreNumberedFrom (n + 1) shifts

-- the history is that of these workers, whose numbers differ: all their answers are out of it, and it has their changes and no others
pub record IsHistoryOf {S C A B W E : Type 0} (P : Protocol S C A B W E) (opening : S) (history : List (ℕ × C)) (shifts : List (Shift C)) : Type 0 where
  pub answered : All (IsShift P opening history) shifts
  pub changes : All (HasItsChanges history) shifts
  pub numbers : (first : ℕ) × AreNumberedFrom first shifts
  pub nobody_else : All (λ entry. Contains (map (λ shift. shift.number) shifts) entry.0) history

-- a worker whose seat was joined to another, which keeps its number and its changes
abbrev pub ended_of : {C : Type 0} → Shift C → ℕ × List (ℕ × C)
ended_of shift = (shift.number, shift.reached.made)

-- how many answers reported a fault
abbrev pub all_faults_of : {C : Type 0} → List (Shift C) → ℕ
all_faults_of shifts = sum_by (λ shift. shift.reached.faults) shifts

-- a lane that was given back has the connections of this worker, if they are known
abbrev pub IsLaneOf : {C : Type 0} → Returned → Shift C → Type 0
IsLaneOf returned shift = IfSome returned.told (λ all. all ≡ shift.connections)

-- so do lanes and workers, one by one
abbrev pub AreLanesOf : {C : Type 0} → List Returned → List (Shift C) → Type 0
AreLanesOf [] [] = Unit {0}
AreLanesOf (r ∷ rs) (s ∷ ss) = IsLaneOf r s × AreLanesOf rs ss
AreLanesOf [] (s ∷ ss) = ⊥
AreLanesOf (r ∷ rs) [] = ⊥

-- a machine that was opened so was served: it has this history, and the lanes that the listener got back show what the workers did;
-- `none_left` is the fact that none of the workers' lanes had an accept left
pub record IsServedBy {S C A B W E : Type 0} (P : Protocol S C A B W E) (opening : S) (faults_old faults_new : ℕ) (old new : List Returned) (none_left : Type 0) (history : List (ℕ × C)) : Type 0 where
  pub shifts : List (Shift C)
  pub back : List Returned
  -- the lanes that were given back report the connections that the workers served
  pub returned : new ≡ old ++ back
  pub lanes : AreLanesOf back shifts
  -- all answers are out of one history, which has their changes and no others
  pub one_history : IsHistoryOf P opening history shifts
  -- no more answers report a fault than were counted
  pub faults : Reaches (faults_old + all_faults_of shifts) faults_new
  -- if no lane had an accept left, none that was given back has
  pub spent : none_left → All (λ r. r.accepts ≡ 0) back
