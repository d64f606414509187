-- What a server and a session ensure of their answers gives one flat list for each caller.
use Rattle.std.specs.Prelude.{◌≡◌, ℕ, List, [], ◌∷◌, map, slice_get, take, Some}
use Rattle.ipam_listen.specs.Connections.{Ends, Returned, finished}
use Rattle.http_session.specs.Steps.{Grown}
use Rattle.http_session.specs.Ends.{IsEnd}
use Rattle.http_session.specs.declared.session.SessionEnd.{SessionEnd}
use Rattle.machine_session.specs.Owned.{Counted, answers_counted, counted, owned}
use Rattle.machine_session.specs.Protocols.{Protocol}
use Rattle.machine_server.specs.History.{IsHistoryOf, Shift}
use Rattle.machine_server.specs.History as server
use Rattle.machine_answers.specs.Answers.{AreCallers, AreLanesOf, Caller, IsChange}

-- a history that was served to lanes has callers, whose connections are known of the lanes
pub record HasCallers {S C A R W E : Type 0} (P : Protocol S C A R W E) (opening : S) (history : List (ℕ × C)) (back : List Returned) : Type 0 where
  pub callers : List (Caller C R)
  pub are : AreCallers P opening history callers
  pub lanes : AreLanesOf back callers

-- one that a session made has one caller, with one connection
pub record HasCaller {S C A R W E : Type 0} (P : Protocol S C A R W E) (opening : S) (history : List (ℕ × C)) (before after : Ends) : Type 0 where
  pub caller : Caller C R
  pub are : AreCallers P opening history (caller ∷ [])
  pub connections_are : map (λ talk. talk.connection) caller.talks ≡ finished before after ∷ []

pub record AnswersAreListed {S C A R W E : Type 0} (P : Protocol S C A R W E) : Type 0 where
  pub served : (opening : S) (history : List (ℕ × C)) (back : List Returned) (shifts : List (Shift C)) → IsHistoryOf P opening history shifts → server.AreLanesOf back shifts
      → HasCallers P opening history back
  pub alone : (opening : S) (last : Counted S C) (before after : Ends) (bytes : List ℕ) (how : SessionEnd) → Grown before.left after.left [] bytes
      → IsEnd (answers_counted P) (counted (owned opening [] 0) 0) last before.written after.written bytes after.left how
      → (last.now.opening ≡ opening) × HasCaller P opening last.now.log before after
  -- each entry is a change that was asked for, and that the machine accepts at its place
  pub entries : (opening : S) (history : List (ℕ × C)) (callers : List (Caller C R)) → AreCallers P opening history callers
      → (n : ℕ) (who : ℕ) (call : C) → slice_get history n ≡ Some (who, call) → IsChange P opening (take n history) call
