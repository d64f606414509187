-- What a run of `serve` leaves that served nobody.
use Rattle.std.proofs.Common.{◌≡◌, ℕ, ◌+◌, ◌≤◌, ◌<◌, ◌⊎◌, List, length, inl, inr, refl, sym, ◌∙◌, ap, arith}
use Rattle.ipam_edge.proofs.FaultLemmas.{unless}
use Rattle.ipam_listen.specs.Connections.{Returned}
use Rattle.machine_session.specs.Protocols.{Protocol}
use Rattle.command_streams.specs.Streams.{NeverRises, Streams, Told}
use Rattle.machine_command.specs.Outside.{NoCountFalls, Outside, Stores}
use Rattle.machine_command.specs.Openers.{OpenerMeaning}
use Rattle.machine_serving.specs.declared.ending.Unserved.{Unserved}
use Rattle.machine_serving.specs.declared.ending.Unserved.TheVariants.{Opening, Memory, Place}
use Rattle.machine_serving.specs.Begun.{IsCalm, IsSayable, IsUnserved, IsUnservedSaid}
use Rattle.machine_serving.specs.Serve.{IsBoundBy, IsServe, IsServeRun, Serving}
use Rattle.machine_serving.specs.Views.{ListenerView, NobodyCame}

-- streams of which each is as before
same_streams : (a b : Streams) → b.input ≡ a.input → b.output ≡ a.output → b.errors ≡ a.errors → b ≡ a
same_streams a b i o e =
    ap (λ (t : Told). record { input = t; output = b.output; errors = b.errors }) i
    ∙ ap (λ (t : Told). record { input = a.input; output = t; errors = b.errors }) o
    ∙ ap (λ (t : Told). record { input = a.input; output = a.output; errors = t }) e

nobody_came : (before after : ListenerView) → after ≡ before → NobodyCame before after
nobody_came before after idle = record { lanes = ap (λ (v : ListenerView). v.lanes) idle; returned = ap (λ (v : ListenerView). v.returned) idle }

-- no lane came that the listener would be bound for, and all came back
nobody_bound : (s : Serving) (before after : ListenerView) → NobodyCame before after → before.lanes < after.lanes → IsBoundBy s after
nobody_bound s before after none came = let same = none.lanes in absurd (omega arith)

nobody_back : (before after : ListenerView) → NobodyCame before after → length after.returned + before.lanes ≡ length before.returned + after.lanes
nobody_back before after none = let same = none.lanes in let back = ap (λ (l : List Returned). length l) none.returned in omega arith

module _ {S C A B W E Q T F : Type 0} (P : Protocol S C A B W E) (U : OpenerMeaning Q T S F) (asked : Q) (s : Serving) (old new : Outside T) (before after : ListenerView) (status : ℕ) where
  -- what came of it, by why nobody was served
  run_of : (why : Unserved F) → IsUnserved U asked old.stores new.stores before after why → IsUnservedSaid U.says why old.streams.errors new.streams.errors status
      → new.streams.input ≡ old.streams.input → new.streams.output ≡ old.streams.output → IsServeRun P U asked s old new before after status
  run_of (Opening fault) u said input output = inr (inl (record { fault = fault; refused = u.0; said = said; input = input; output = output }, u.1))
  run_of Memory u said input output = inr (inr (inl (record { is = said.0; streams = same_streams old.streams new.streams input output said.1; left = u.0; idle = u.1 })))
  run_of Place u said input output =
      inr (inr (inr (record { is = said.0; streams = same_streams old.streams new.streams input output said.1; left = u.0; failed = u.1.0; nobody = u.1.1 })))

  none_came : (why : Unserved F) → IsUnserved U asked old.stores new.stores before after why → NobodyCame before after
  none_came (Opening fault) u = nobody_came before after u.1
  none_came Memory u = nobody_came before after u.1
  none_came Place u = u.1.1

  -- where the status is that of out of memory, the opener's count did not rise, and the listener was not used
  quiet_of : (why : Unserved F) (fails : F → Type 0) → IsUnserved U asked old.stores new.stores before after why → IsUnservedSaid U.says why old.streams.errors new.streams.errors status
      → IsCalm fails old.stores.faults new.stores.faults why → status ≡ 5 → IsSayable fails why → (new.stores.faults ≡ old.stores.faults) × (after ≡ before)
  quiet_of (Opening fault) fails u said calm five none = (unless none calm, u.1)
  quiet_of Memory fails u said calm five none = (calm, u.1)
  quiet_of Place fails u said calm five none = absurd (let three = said.0 in omega arith)

  pub of_unserved : (why : Unserved F) (fails : F → Type 0) → IsUnserved U asked old.stores new.stores before after why → IsUnservedSaid U.says why old.streams.errors new.streams.errors status
      → IsCalm fails old.stores.faults new.stores.faults why → (status ≡ 5 → IsSayable fails why × (new.streams.errors.faults ≡ old.streams.errors.faults))
      → new.streams.input ≡ old.streams.input → new.streams.output ≡ old.streams.output → NoCountFalls old new → before.faults ≤ after.faults
      → IsServe P U asked s old new before after status
  of_unserved why fails u said calm sayable input output later listener_later =
      let none = none_came why u in
      record {
        run = run_of why u said input output;
        unread = input;
        lanes_back = nobody_back before after none;
        bound = nobody_bound s before after none;
        later = later;
        listener_later = listener_later;
        quiet = λ five.
            let say = sayable five in
            let still = quiet_of why fails u said calm five say.0 in
            (record { input = ap (λ (t : Told). t.faults) input; output = ap (λ (t : Told). t.faults) output; errors = say.1 }, still.0, still.1);
      }
