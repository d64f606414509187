-- What a session over a store leaves, as the command's record has it.
use Rattle.std.proofs.Common.{◌≡◌, ℕ, ◌+◌, ◌≤◌, ◌⊎◌, List, [], ◌++◌, inl, inr, Option, Some, None, IfSome, is_some, zero, suc, map, IsSome, refl, subst, sym, ◌∙◌, ap, arith}
use Rattle.ipam_edge.specs.Reading.{Step}
use Rattle.std.specs.Io.KnownBytes.{Appends}
use Rattle.ipam_data.specs.declared.calls.Call.{Call}
use Rattle.ipam_data.specs.Replays.{replay as entries_replay}
use Rattle.ipam_data.specs.State.{State}
use Rattle.ipam_data.specs.Steps.{plain_step}
use Rattle.stored_tables.specs.declared.tables.Tables.{Tables}
use Rattle.stored_tables.specs.Stored.{Tells}
use Rattle.ipam_keeper.specs.Keeping.{Rose, IsRaised, IsReturned, last_count}
use Rattle.ipam_keeper.proofs.FaultLemmas.{raised_by_none}
use Rattle.http_session.specs.Steps.{Grown}
use Rattle.http_session.specs.Talk.{Answer, May, Run, texts}
use Rattle.http_session.specs.Requests.{AreAllItems, Item}
use Rattle.http_session.specs.Ends.{IsEnd}
use Rattle.http_session.specs.declared.session.SessionEnd.{SessionEnd}
use Rattle.http_session.specs.declared.session.SessionEnd.TheVariants.{Closed, SourceFault, SinkFault, Memory}
use Rattle.http_session.proofs.ItemLemmas.{all_in_all}
use Rattle.history_lock.specs.Machines.{Reaches}
use Rattle.history_lock.specs.Replay.{replay}
use Rattle.machine_session.specs.Owned.{Owned, counted, owned, plain_of_owned}
use Rattle.machine_session.specs.Sessions.{IsOwnSession}
use Rattle.machine_session.proofs.Beside.{session_beside}
use Rattle.register_core.specs.Kept.{Kept}
use Rattle.register_core.specs.Machines.{Seen, pair_of, seen, seen_step}
use Rattle.register_core.proofs.MachineFits.{replay_pairs}
use Rattle.rest_ipam.specs.Answered.{answers_kept, fresh, opened}
use Rattle.rest_ipam.specs.Protocol.{register_protocol, seen_protocol}
use Rattle.command_words.specs.declared.asked.Store.{Store}
use Rattle.ipam_edge.proofs.FaultLemmas.{unless}
use Rattle.command_streams.specs.Streams.{Told, Failed}
use Rattle.command_store.specs.Outside.{Outside, NoCountFalls}
use Rattle.command_store.specs.Opening.{found_tables, IsLoaded}
use Rattle.machine_command.specs.Session.{end_status}
use Rattle.command_session.specs.Session.{Serves, HasFailedCall, IsSession}

-- where the session closed, the output has the answers to all requests of the whole input
pub prints : {S : Type 0} (may : May S) (first register : S) (left_old left_new written_old written_new : Option (List ℕ)) (n : ℕ) (bytes : List ℕ)
    → Grown left_old left_new [] bytes → IsEnd may first register written_old written_new bytes left_new (Closed n)
    → IfSome left_old (λ input. (items : List Item) × (answers : List Answer) × (last : S)
    × AreAllItems input (Unit {0}) items × Run may first items answers last × Appends written_old written_new (texts items answers))
prints may first register None left_new written_old written_new n bytes grown said = tt
prints may first register (Some input) None written_old written_new n bytes grown said = absurd grown.consumes
prints may first register (Some input) (Some left) written_old written_new n bytes grown said =
    let whole : bytes ++ left ≡ input = ap (λ (t : List ℕ). t ++ left) grown.grown ∙ sym grown.consumes in (
      said.items,
      said.talk.answers,
      register,
      subst (λ (t : List ℕ). AreAllItems t (Unit {0}) said.items) whole (all_in_all bytes left (left ≡ []) (Unit {0}) said.items (λ none. (none, tt)) said.all),
      said.talk.run,
      said.talk.told,
    )

-- where the opener's count did not rise, no answer told that the keeper failed
none_failed : (old mid count new told : ℕ) → Reaches (0 + told) count → old ≤ mid → IsRaised mid count new → (¬ Rose old new) → told ≡ 0
none_failed old mid count new zero few later raised well = refl
none_failed old mid count new (suc told) (inl few) later (inl is) well = absurd (well (inl (omega arith)))
none_failed old mid count new (suc told) (inr most) later (inl is) well = absurd (well (inr (omega arith)))
none_failed old mid count new (suc told) few later (inr is) well = absurd (well (inr (let e = is.1 in omega arith)))

bounded : (old mid count new told : ℕ) → Reaches (0 + told) count → old ≤ mid → IsRaised mid count new → (old + told ≤ new) ⊎ (last_count ≤ new)
bounded old mid count new told (inl few) later (inl is) = inl (omega arith)
bounded old mid count new told (inr most) later (inl is) = inr (omega arith)
bounded old mid count new told few later (inr is) = inr (let e = is.1 in omega arith)

-- a session of a register that was opened with this state, over a keeper that had not failed, and whose keeper is back
serves : {R : Type 0} (step : Step R) (from to : R) (store : Store) (old new : Outside) (how : SessionEnd) (state : State) (last : Owned State Call) (mid : ℕ) (told : Option Tables)
    → IsLoaded store old state
    → IsOwnSession register_protocol step (owned state [] 0) last from to old.streams.input.bytes new.streams.input.bytes old.streams.output.bytes new.streams.output.bytes how
    → mid ≡ old.stores.faults → IsRaised mid last.faults new.stores.faults
    → (IsSome (found_tables store old) → IsSome told)
    → Tells told (replay plain_step state last.log) → IsReturned (Some store.db) told old.stores.stored new.stores.stored
    → new.streams.errors ≡ old.streams.errors → Serves store old new how
serves step from to store old new how state last mid told loaded s same raised telling tells returned silent =
    let later : old.stores.faults ≤ mid = omega (arith, same) in
    record {
      state = state;
      loaded = loaded;
      bytes = s.session.bytes;
      last = counted last s.told;
      grown = s.session.grown;
      ends = s.session.ends;
      bounded = bounded old.stores.faults mid last.faults new.stores.faults s.told s.bounded later raised;
      plain = λ well. s.certain (none_failed old.stores.faults mid last.faults new.stores.faults s.told s.bounded later raised well);
      needed = s.session.needed;
      calm = λ none. raised_by_none mid last.faults new.stores.faults (s.still none) raised ∙ same;
      holds = (told, telling, tells, returned);
      silent = silent;
    }

-- the opener's count rose only where a call was answered by a failed keeper
rises : (store : Store) (old new : Outside) (how : SessionEnd) (s : Serves store old new how) (n : ℕ) → s.last.told ≡ n
    → (new.stores.faults ≡ old.stores.faults) ⊎ HasFailedCall store old new how
rises store old new how s zero is = inl (s.calm is)
rises store old new how s (suc n) is = inr (record { serves = s; failed = omega (arith, is) })

-- a session by its end, as the command's record has it
pub of_served : (store : Store) (old new : Outside) (how : SessionEnd) → Serves store old new how
    → (how ≡ SourceFault → Failed old.streams.input new.streams.input) → (how ≡ SinkFault → Failed old.streams.output new.streams.output)
    → NoCountFalls old new
    → (how ≡ SourceFault) ⊎ (new.streams.input.faults ≡ old.streams.input.faults) → (how ≡ SinkFault) ⊎ (new.streams.output.faults ≡ old.streams.output.faults)
    → IsSession store old new (end_status how)
of_served store old new (Closed n) s source sink later read wrote = record {
  statuses = inl refl;
  done = λ z. record {
    count = n;
    serves = s;
    prints = prints answers_kept (fresh s.state) s.last _ _ _ _ n s.bytes s.grown s.ends;
    plain = λ well. prints _ (opened s.state) (plain_of_owned plain_step s.last.now) _ _ _ _ n s.bytes s.grown (s.plain well);
  };
  refused = λ z. absurd (omega arith);
  fault = λ z. absurd (omega arith);
  store_fault = λ z. absurd (omega arith);
  memory = λ z. absurd (omega arith);
  later = later;
  quiet = λ z. absurd (omega arith);
}
of_served store old new SourceFault s source sink later read wrote = record {
  statuses = inr (inr (inl refl));
  done = λ z. absurd (omega arith);
  refused = λ z. absurd (omega arith);
  fault = λ z. inl (record { failed = source refl; serves = s });
  store_fault = λ z. absurd (omega arith);
  memory = λ z. absurd (omega arith);
  later = later;
  quiet = λ z. absurd (omega arith);
}
of_served store old new SinkFault s source sink later read wrote = record {
  statuses = inr (inr (inl refl));
  done = λ z. absurd (omega arith);
  refused = λ z. absurd (omega arith);
  fault = λ z. inr (inl (record { failed = sink refl; serves = s }));
  store_fault = λ z. absurd (omega arith);
  memory = λ z. absurd (omega arith);
  later = later;
  quiet = λ z. absurd (omega arith);
}
of_served store old new Memory s source sink later read wrote = record {
  statuses = inr (inr (inr (inr refl)));
  done = λ z. absurd (omega arith);
  refused = λ z. absurd (omega arith);
  fault = λ z. absurd (omega arith);
  store_fault = λ z. absurd (omega arith);
  memory = λ z. (s.silent, inr s);
  later = later;
  quiet = λ z. (
    record { input = unless (λ e. cc e) read; output = unless (λ e. cc e) wrote; errors = ap (λ (t : Told). t.faults) s.silent },
    rises store old new Memory s s.last.told refl,
  );
}

pub of_ended : (store : Store) (old new : Outside) (how : SessionEnd) (status : ℕ) → status ≡ end_status how → Serves store old new how
    → (how ≡ SourceFault → Failed old.streams.input new.streams.input) → (how ≡ SinkFault → Failed old.streams.output new.streams.output)
    → NoCountFalls old new
    → (how ≡ SourceFault) ⊎ (new.streams.input.faults ≡ old.streams.input.faults) → (how ≡ SinkFault) ⊎ (new.streams.output.faults ≡ old.streams.output.faults)
    → IsSession store old new status
of_ended store old new how status is s source sink later read wrote = subst (λ (n : ℕ). IsSession store old new n) (sym is) (of_served store old new how s source sink later read wrote)

-- a keeper that goes on as before tells where it did
still_tells : (start told : Option Tables) → is_some told ≡ is_some start → IsSome start → IsSome told
still_tells None None still some = some
still_tells (Some first) None still some = absurd (cc still)
still_tells None (Some tables) still some = absurd (cc still)
still_tells (Some first) (Some tables) still some = some

-- a session that was served, by what is known of the opener that lent its keeper: the register was first and is last, and its changes are those
-- that the session accepted
pub serves_with : {R K : Type 0} (step : Step R) (from to : R) (store : Store) (old new : Outside) (how : SessionEnd) (told_by : K → Option Tables) (faults_by : K → ℕ)
    (first last : Kept K) (kept : K) (mid : ℕ) (lent : Option (Option (List ℕ))) (mid_stored : Option (List (List ℕ × Tables)))
    → IsLoaded store old first.state → first.log ≡ [] → first.state ≡ entries_replay first.opening first.log → faults_by first.keeper ≡ 0
    → IsOwnSession seen_protocol step (owned (seen first.opening (told_by first.keeper)) (map pair_of first.log) (faults_by first.keeper))
    (owned (seen last.opening (told_by last.keeper)) (map pair_of last.log) (faults_by last.keeper)) from to
    old.streams.input.bytes new.streams.input.bytes old.streams.output.bytes new.streams.output.bytes how
    → told_by first.keeper ≡ found_tables store old → last.state ≡ entries_replay last.opening last.log → Tells (told_by last.keeper) last.state
    → kept ≡ last.keeper → mid ≡ old.stores.faults → IsRaised mid (faults_by kept) new.stores.faults
    → lent ≡ Some store.db → old.stores.stored ≡ mid_stored → IsReturned lent (told_by kept) mid_stored new.stores.stored
    → new.streams.errors ≡ old.streams.errors
    → (s : Serves store old new how) × (s.state ≡ first.state) × (s.last.now.log ≡ map pair_of last.log)
unfolding serves
serves_with {R} {K} step from to store old new how told_by faults_by first last kept mid lent mid_stored loaded none begun well talk starts replayed tells same later raised out stays returned silent =
    let raised' = subst (λ (k : K). IsRaised mid (faults_by k) new.stores.faults) same raised in
    let back = subst (λ (k : K). IsReturned lent (told_by k) mid_stored new.stores.stored) same returned in
    let here = subst (λ (l : Option (Option (List ℕ))). IsReturned l (told_by last.keeper) mid_stored new.stores.stored) out back in
    let there = subst (λ (s : Option (List (List ℕ × Tables))). IsReturned (Some store.db) (told_by last.keeper) s new.stores.stored) (sym stays) here in
    let opening : first.opening ≡ first.state = sym (begun ∙ ap (entries_replay first.opening) none) in
    let log = map pair_of last.log in
    let plainly = session_beside register_protocol seen_step (λ (s : Seen). s.state) (λ s call. refl) step _ _ from to _ _ _ _ how talk in
    let from_here : IsOwnSession register_protocol step (owned first.state [] 0) (owned last.opening log (faults_by last.keeper)) from to
    old.streams.input.bytes new.streams.input.bytes old.streams.output.bytes new.streams.output.bytes how =
    subst (λ (v : Owned State Call). IsOwnSession register_protocol step v (owned last.opening log (faults_by last.keeper)) from to
    old.streams.input.bytes new.streams.input.bytes old.streams.output.bytes new.streams.output.bytes how)
    (λ i. owned (opening i) (map pair_of (none i)) (well i)) plainly in
    let on : last.opening ≡ first.state = ap (λ (s : Seen). s.state) talk.opening ∙ opening in
    let state : last.state ≡ replay plain_step first.state log = replayed ∙ (sym (replay_pairs last.opening last.log) ∙ ap (λ (o : State). replay plain_step o log) on) in
    let goes_on = still_tells (found_tables store old) (told_by last.keeper) (ap (λ (s : Seen). s.tells) talk.opening ∙ ap is_some starts) in (
      serves step from to store old new how first.state (owned last.opening log (faults_by last.keeper)) mid (told_by last.keeper) loaded from_here later raised' goes_on
          (subst (Tells (told_by last.keeper)) state tells) there silent,
      refl,
      refl,
    )

-- the same without them
pub serves_back : {R K : Type 0} (step : Step R) (from to : R) (store : Store) (old new : Outside) (how : SessionEnd) (told_by : K → Option Tables) (faults_by : K → ℕ)
    (first last : Kept K) (kept : K) (mid : ℕ) (lent : Option (Option (List ℕ))) (mid_stored : Option (List (List ℕ × Tables)))
    → IsLoaded store old first.state → first.log ≡ [] → first.state ≡ entries_replay first.opening first.log → faults_by first.keeper ≡ 0
    → IsOwnSession seen_protocol step (owned (seen first.opening (told_by first.keeper)) (map pair_of first.log) (faults_by first.keeper))
    (owned (seen last.opening (told_by last.keeper)) (map pair_of last.log) (faults_by last.keeper)) from to
    old.streams.input.bytes new.streams.input.bytes old.streams.output.bytes new.streams.output.bytes how
    → told_by first.keeper ≡ found_tables store old → last.state ≡ entries_replay last.opening last.log → Tells (told_by last.keeper) last.state
    → kept ≡ last.keeper → mid ≡ old.stores.faults → IsRaised mid (faults_by kept) new.stores.faults
    → lent ≡ Some store.db → old.stores.stored ≡ mid_stored → IsReturned lent (told_by kept) mid_stored new.stores.stored
    → new.streams.errors ≡ old.streams.errors → Serves store old new how
serves_back step from to store old new how told_by faults_by first last kept mid lent mid_stored loaded none begun well talk starts replayed tells same later raised out stays returned silent =
    (serves_with step from to store old new how told_by faults_by first last kept mid lent mid_stored loaded none begun well talk starts replayed tells same later raised out stays returned silent).0
