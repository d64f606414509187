-- One connection that was served, over a shared machine or over its own machine.
use Rattle.std.specs.Prelude.{◌≡◌, ◌+◌, ◌≤◌, ℕ, List, [], Option}
use Rattle.ipam_edge.specs.Reading.{GrownByReads, Last, Step}
use Rattle.history_lock.specs.Machines.{Reaches}
use Rattle.history_lock.specs.Seats.{SeatView}
use Rattle.http_session.specs.Steps.{Grown}
use Rattle.http_session.specs.Ends.{HasNoNext, IsEnd, IsLastRead, IsReadAsNeeded, IsSession}
use Rattle.http_session.specs.declared.session.SessionEnd.{SessionEnd}
use Rattle.machine_session.specs.Protocols.{Protocol}
use Rattle.machine_session.specs.Told.{IsLater, answers_in, standing_of}
use Rattle.machine_session.specs.Alone.{answers_plainly, plain_of}
use Rattle.machine_session.specs.Owned.{Owned, answers_certainly, answers_counted, counted, plain_of_owned}

-- the seat was v and is w; the source was `from` and is `to`, had these bytes left and has those, and the sink had and has these written
pub record IsSharedSession {S C A B W E R : Type 0} (P : Protocol S C A B W E) (step : Step R) (v w : SeatView S C) (from to : R) (left_old left_new written_old written_new : Option (List ℕ)) (how : SessionEnd) : Type 0 where
  -- what was read, and no more than was needed
  pub bytes : List ℕ
  pub grown : Grown left_old left_new [] bytes
  pub needed : IsReadAsNeeded bytes
  -- each read was made while the bytes so far had no whole next item, and none after one that said the end or failed
  pub last : Last
  pub last_is : IsLastRead how last
  pub reads : GrownByReads step HasNoNext from to [] bytes last
  -- the seat has answered some calls, and is else the same
  pub later : IsLater v w
  -- the answers are a talk in what the seat has seen now
  pub talk : IsEnd (answers_in P w.opening w.seen w.number) (standing_of v) (standing_of w) written_old written_new bytes left_new how
  -- if no other seat is live, they are the plain machine's, one after another
  pub alone : v.weight ≡ 65536 → IsEnd (answers_plainly P v.number) (plain_of P.step v) (plain_of P.step w) written_old written_new bytes left_new how

-- one connection over its own machine, which was v and is w
pub record IsOwnSession {S C A B W E R : Type 0} (P : Protocol S C A B W E) (step : Step R) (v w : Owned S C) (from to : R) (left_old left_new written_old written_new : Option (List ℕ)) (how : SessionEnd) : Type 0 where
  -- how many calls were answered by a fault
  pub told : ℕ
  -- what was read and answered, with the machine's accepted changes and its count of faults after each answer
  pub session : IsSession (answers_counted P) step (counted v 0) (counted w told) from to left_old left_new written_old written_new how
  pub opening : w.opening ≡ v.opening
  -- the machine's count never falls, rises by so many at least, as far as it goes, ..
  pub later : v.faults ≤ w.faults
  pub bounded : Reaches (v.faults + told) w.faults
  -- .. and only if a call was answered by a fault
  pub still : told ≡ 0 → w.faults ≡ v.faults
  -- if none was, the answers are those of a plain machine that does not fail
  pub certain : told ≡ 0
      → IsEnd (answers_certainly P) (plain_of_owned P.step v) (plain_of_owned P.step w) written_old written_new session.bytes left_new how
