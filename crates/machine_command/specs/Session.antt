-- What a run of the command `session` promises: one connection over the input and the output, with its own machine.
use Rattle.std.specs.Prelude.{◌≡◌, ◌≤◌, ◌⊎◌, ◌+◌, ℕ, List, [], IfSome}
use Rattle.history_lock.specs.Machines.{Reaches}
use Rattle.history_lock.specs.Replay.{replay}
use Rattle.http_session.specs.Requests.{AreAllItems, Item}
use Rattle.http_session.specs.Steps.{Grown}
use Rattle.http_session.specs.Talk.{Answer, May, Run, texts}
use Rattle.http_session.specs.Ends.{IsEnd, IsReadAsNeeded}
use Rattle.http_session.specs.declared.session.SessionEnd.{SessionEnd}
use Rattle.http_session.specs.declared.session.SessionEnd.TheVariants.{Closed, SourceFault, SinkFault, Memory}
use Rattle.machine_session.specs.Protocols.{Protocol}
use Rattle.machine_session.specs.Owned.{Owned, answers_certainly, answers_counted, counted, plain_of_owned}
use Rattle.command_streams.specs.Streams.{Failed, Gains, NeverRises, Streams}
use Rattle.machine_command.specs.Outside.{IsRaised, NoCountFalls, Outside, StoreFailed}
use Rattle.machine_command.specs.Openers.{OpenerMeaning}

-- what was read is what a session of the opened machine served, and the output gained what this end says
pub record Serves {S C A B W E Q T F : Type 0} (P : Protocol S C A B W E) (U : OpenerMeaning Q T S F) (asked : Q) (old new : Outside T) (end : SessionEnd) : Type 0 where
  -- the machine as it was opened, and as it is after the last answer
  pub first : Owned S C
  pub last : Owned S C
  pub loaded : U.loads asked old.stores.stored first.opening
  pub fresh : (first.log ≡ []) × (first.faults ≡ 0)
  pub bytes : List ℕ
  pub grown : Grown old.streams.input.bytes new.streams.input.bytes [] bytes
  pub needed : IsReadAsNeeded bytes
  -- how many calls were answered by a fault
  pub told : ℕ
  -- the answers are the plain machine's, one after another, but if it failed, which raised its count, or memory ran out in it ..
  pub ends : IsEnd (answers_counted P) (counted first 0) (counted last told) old.streams.output.bytes new.streams.output.bytes bytes new.streams.input.bytes end
  -- .. the opener's count rose by the machine's, as far as it goes ..
  pub counted : IsRaised old.stores.faults last.faults new.stores.faults
  -- .. which is by the reported faults at least, and by nothing else ..
  pub bounded : Reaches (old.stores.faults + told) new.stores.faults
  pub still : told ≡ 0 → new.stores.faults ≡ old.stores.faults
  -- .. and if it did not rise they are all the plain machine's, out of memory aside
  pub certain : (¬ StoreFailed old new)
      → IsEnd (answers_certainly P) (plain_of_owned P.step first) (plain_of_owned P.step last) old.streams.output.bytes new.streams.output.bytes bytes new.streams.input.bytes end
  -- the store has the state after these changes
  pub holds : U.holds asked old.stores.stored new.stores.stored (replay P.step last.opening last.log)
  -- nothing is said
  pub silent : new.streams.errors ≡ old.streams.errors

-- the status of a session by its end
abbrev pub end_status : SessionEnd → ℕ
end_status (Closed n) = 0
end_status SourceFault = 3
end_status SinkFault = 3
end_status Memory = 5

-- a fault of an end is returned only if its count rose, which it does with no other end
pub record HasCause {T : Type 0} (old new : Outside T) (end : SessionEnd) : Type 0 where
  pub source : end ≡ SourceFault → Failed old.streams.input new.streams.input
  pub source_kept : (end ≡ SourceFault) ⊎ (new.streams.input.faults ≡ old.streams.input.faults)
  pub sink : end ≡ SinkFault → Failed old.streams.output new.streams.output
  pub sink_kept : (end ≡ SinkFault) ⊎ (new.streams.output.faults ≡ old.streams.output.faults)

-- an opening was refused, which was said, and neither was anything read nor anything written
pub record IsRefused {Q T S F : Type 0} (U : OpenerMeaning Q T S F) (asked : Q) (old new : Outside T) (status : ℕ) : Type 0 where
  pub fault : F
  pub refused : U.refuses asked old.stores new.stores fault
  pub said : U.says fault old.streams.errors new.streams.errors status
  pub input : new.streams.input ≡ old.streams.input
  pub output : new.streams.output ≡ old.streams.output

-- a machine was opened and served to an end, which gives the status; or none was opened
abbrev pub IsRun : {S C A B W E Q T F : Type 0} → Protocol S C A B W E → OpenerMeaning Q T S F → Q → Outside T → Outside T → ℕ → Type 0
IsRun P U asked old new status =
    ((end : SessionEnd) × Serves P U asked old new end × HasCause old new end × (status ≡ end_status end)) ⊎ IsRefused U asked old new status

-- the output gained the texts of the answers that may be given, one after another, to all requests of the input, up to the first that
-- closes
abbrev pub Prints : {V : Type 0} → May V → V → Streams → Streams → Type 0
Prints {V} may first old new =
    IfSome old.input.bytes (λ bytes. (items : List Item) × (answers : List Answer) × (last : V) × AreAllItems bytes (Unit {0}) items
    × Run may first items answers last × Gains old.output new.output (texts items answers))

-- a call was answered by a fault
pub record HasFailedCall {S C A B W E Q T F : Type 0} (P : Protocol S C A B W E) (U : OpenerMeaning Q T S F) (asked : Q) (old new : Outside T) (end : SessionEnd) : Type 0 where
  pub serves : Serves P U asked old new end
  pub failed : 1 ≤ serves.told

-- a run of `session`
pub record IsSession {S C A B W E Q T F : Type 0} (P : Protocol S C A B W E) (U : OpenerMeaning Q T S F) (asked : Q) (old new : Outside T) (status : ℕ) : Type 0 where
  pub run : IsRun P U asked old new status
  -- no count of faults falls
  pub later : NoCountFalls old new
  -- 5: the count of no stream rose, and the opener's only if a call was answered by a fault
  pub quiet : status ≡ 5 → NeverRises old.streams new.streams × ((new.stores.faults ≡ old.stores.faults) ⊎ HasFailedCall P U asked old new Memory)
