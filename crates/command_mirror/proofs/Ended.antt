-- What a mirror over an opened register leaves, as the command's record has it.
use Rattle.std.proofs.Common.{◌≡◌, ◌+◌, ◌++◌, ◌<◌, ◌≤◌, ◌⊎◌, inl, inr, ℕ, zero, suc, Bool, true, false, List, [], Option, Some, length, length-append, map, refl, sym, ap, ◌∙◌, subst, arith}
use Rattle.ipam_edge.specs.Faults.{Rose as EdgeRose}
use Rattle.ipam_edge.specs.Reading.{Step}
use Rattle.ipam_edge.proofs.FaultLemmas.{unless}
use Rattle.http_session.specs.declared.session.SessionEnd.{SessionEnd}
use Rattle.http_session.specs.declared.session.SessionEnd.TheVariants.{Closed, SourceFault, SinkFault, Memory}
use Rattle.http_lanes.specs.Listened.{IsListening}
use Rattle.http_lanes.specs.declared.listening.Listening.{Listening}
use Rattle.http_lanes.specs.declared.listening.Listening.TheVariants.{Whole, Broken}
use Rattle.ipam_data.specs.declared.calls.Call.{Call}
use Rattle.ipam_data.specs.declared.update.Update.{Update}
use Rattle.ipam_data.specs.Replays.{replay as entries_replay}
use Rattle.ipam_data.specs.State.{State}
use Rattle.ipam_data.specs.Steps.{plain_step}
use Rattle.ipam_keeper.specs.Keeping.{IsRaised, IsReturned}
use Rattle.ipam_keeper.proofs.FaultLemmas.{raised_by_none}
use Rattle.ipam_listen.specs.Connections.{Returned}
use Rattle.machine_serving.specs.Views.{ListenerView, ListeningFailed, NoneFailed}
use Rattle.machine_session.specs.Owned.{plain_of_owned}
use Rattle.register_core.specs.Kept.{Kept}
use Rattle.register_core.specs.Machines.{Seen, pair_of}
use Rattle.rest_ipam.specs.Answered.{answers_kept, answers_plainly, fresh, opened}
use Rattle.snapshot_operator.specs.Shown.{IsFollowing}
use Rattle.snapshot_rows.specs.Lists.{Lists, lists_of}
use Rattle.stored_tables.specs.declared.tables.Tables.{Tables}
use Rattle.stored_tables.specs.Stored.{Tells}
use Rattle.command_words.specs.declared.asked.Store.{Store}
use Rattle.command_streams.specs.Streams.{NeverFalls, NeverRises, Told}
use Rattle.command_store.specs.Outside.{AreSame, IsUnused, NoCountFalls, NoCountRises, Outside}
use Rattle.command_store.specs.Opening.{FailsToSay, IsLoaded, found_tables}
use Rattle.command_store.proofs.Refused.{back_after, raised_later}
use Rattle.command_session.specs.Session.{HasFailedCall, Serves}
use Rattle.command_session.proofs.Sessions.{prints, serves_with}
use Rattle.command_words.specs.declared.asked.Mirroring.{Mirroring}
use Rattle.command_mirror.specs.declared.mirrored.Ran.{Ran}
use Rattle.command_mirror.specs.declared.mirrored.Ran.TheVariants.{Starved, Placeless, Ended}
use Rattle.command_mirror.specs.Mirror.{Exhausts, Falters, Finishes, HasNoPlace, IsBoundBy, IsMirror, Mirrors, MirrorsAll, Starves}
use Rattle.command_mirror.specs.Ran.{HasEnded, HasNotRun, HasRun, ended_status, ran_status}
use Rattle.command_mirror.specs.Readers.{AreReadLanes}
use Rattle.command_mirror.specs.Together.{HasCause}

-- what holds of a run whatever its status
pub record Whatever (asked : Mirroring) (old new : Outside) (before after : ListenerView) : Type 0 where
  pub lanes_back : length after.returned + before.lanes ≡ length before.returned + after.lanes
  pub bound : before.lanes < after.lanes → IsBoundBy asked after
  pub later : NoCountFalls old new
  pub listener_later : before.faults ≤ after.faults

module _ (asked : Mirroring) (old new : Outside) (before after : ListenerView) (all : Whatever asked old new before after) where
  pub of_done : Finishes asked old new before after × NoneFailed before after → IsMirror asked old new before after 0
  of_done k = record {
    statuses = inl refl;
    done = λ z. k;
    refused = λ z. absurd (omega arith);
    fault = λ z. absurd (omega arith);
    store_fault = λ z. absurd (omega arith);
    memory = λ z. absurd (omega arith);
    lanes_back = all.lanes_back;
    bound = all.bound;
    later = all.later;
    listener_later = all.listener_later;
  }

  pub of_fault : Falters asked old new before after ⊎ HasNoPlace asked old new before after ⊎ (FailsToSay asked.store old new × (after ≡ before)) → IsMirror asked old new before after 3
  of_fault k = record {
    statuses = inr (inr (inl refl));
    done = λ z. absurd (omega arith);
    refused = λ z. absurd (omega arith);
    fault = λ z. k;
    store_fault = λ z. absurd (omega arith);
    memory = λ z. absurd (omega arith);
    lanes_back = all.lanes_back;
    bound = all.bound;
    later = all.later;
    listener_later = all.listener_later;
  }

  pub of_memory : new.streams.errors ≡ old.streams.errors → Starves old new before after ⊎ Exhausts asked old new before after → IsMirror asked old new before after 5
  of_memory silent k = record {
    statuses = inr (inr (inr (inr refl)));
    done = λ z. absurd (omega arith);
    refused = λ z. absurd (omega arith);
    fault = λ z. absurd (omega arith);
    store_fault = λ z. absurd (omega arith);
    memory = λ z. (silent, k);
    lanes_back = all.lanes_back;
    bound = all.bound;
    later = all.later;
    listener_later = all.listener_later;
  }

-- where no lane came, none is missing
pub not_used : (asked : Mirroring) (old new : Outside) (before after : ListenerView) → after ≡ before → NoCountFalls old new → Whatever asked old new before after
not_used asked old new before after idle later =
    let returned = ap (λ (l : ListenerView). length l.returned) idle in
    let lanes = ap (λ (l : ListenerView). l.lanes) idle in
    let faults = ap (λ (l : ListenerView). l.faults) idle in
    record { lanes_back = omega arith; bound = λ came. absurd (omega arith); later = later; listener_later = omega arith }

-- ---- the operator's session ended

rises : (store : Store) (old new : Outside) (how : SessionEnd) (s : Serves store old new how) (n : ℕ) → s.last.told ≡ n
    → (new.stores.faults ≡ old.stores.faults) ⊎ HasFailedCall store old new how
rises store old new how s zero is = inl (s.calm is)
rises store old new how s (suc n) is = inr (record { serves = s; failed = omega (arith, is) })

module _ (asked : Mirroring) (old new : Outside) (before after : ListenerView) (all : Whatever asked old new before after) where
  finishes : (n : ℕ) → MirrorsAll asked old new before after (Closed n) → Finishes asked old new before after
  finishes n m =
      let s = m.mirrors.serves in
      record {
        count = n;
        mirrored = m;
        prints = prints answers_kept (fresh s.state) s.last _ _ _ _ n s.bytes s.grown s.ends;
        plain = λ well. prints answers_plainly (opened s.state) (plain_of_owned plain_step s.last.now) _ _ _ _ n s.bytes s.grown (s.plain well);
      }

  exhausts : (how : SessionEnd) (m : Mirrors asked old new before after how) → (how ≡ Memory) × (length m.published < length m.serves.last.now.log) → IsMirror asked old new before after 5
  exhausts how m cause = of_memory asked old new before after all m.serves.silent (inr (record { how = how; mirrors = m; cause = inr cause }))

  -- by how all ended
  by_end : (how : SessionEnd) (heard : Listening) (m : MirrorsAll asked old new before after how)
      → HasCause how old.streams.input.faults new.streams.input.faults old.streams.output.faults new.streams.output.faults
      → IsListening (NoneFailed before after) (ListeningFailed before after) heard
      → IsMirror asked old new before after (ended_status how true heard)
  by_end (Closed n) Whole m cause listened = of_done asked old new before after all (finishes n m, listened)
  by_end (Closed n) Broken m cause listened =
      of_fault asked old new before after all (inl (record { how = Closed n; mirrored = m; cause = inr (inr (finishes n m, listened)) }))
  by_end SourceFault heard m cause listened =
      of_fault asked old new before after all (inl (record { how = SourceFault; mirrored = m; cause = inl (refl, cause.source refl) }))
  by_end SinkFault heard m cause listened =
      of_fault asked old new before after all (inl (record { how = SinkFault; mirrored = m; cause = inr (inl (refl, cause.sink refl)) }))
  by_end Memory heard m cause listened =
      let s = m.mirrors.serves in
      of_memory asked old new before after all s.silent (inr (record {
        how = Memory;
        mirrors = m.mirrors;
        cause = inl (
          refl,
          record { input = unless (λ e. cc e) cause.source_kept; output = unless (λ e. cc e) cause.sink_kept; errors = ap (λ (t : Told). t.faults) s.silent },
          rises asked.store old new Memory s s.last.told refl,
        );
      }))

  pub by_ran : (how : SessionEnd) (whole : Bool) (heard : Listening) (m : Mirrors asked old new before after how)
      → (whole ≡ true → length m.published ≡ length m.serves.last.now.log) → (whole ≡ false → length m.published < length m.serves.last.now.log)
      → (how ≡ Memory) ⊎ (whole ≡ true) → HasCause how old.streams.input.faults new.streams.input.faults old.streams.output.faults new.streams.output.faults
      → IsListening (NoneFailed before after) (ListeningFailed before after) heard
      → IsMirror asked old new before after (ended_status how whole heard)
  by_ran how false heard m every lacks memory cause listened = exhausts how m (elim memory [ inl is ↦ is | inr whole ↦ absurd (cc whole) ], lacks refl)
  by_ran how true heard m every lacks memory cause listened = by_end how heard (record { mirrors = m; all = every refl }) cause listened

-- ---- the keeper went back

-- a register over the store was `first` and is `last`, and its keeper went back
pub record IsBack {K : Type 0} (told_by : K → Option Tables) (faults_by : K → ℕ) (store : Store) (old new : Outside) (first last : Kept K) : Type 0 where
  pub kept : K
  pub mid : ℕ
  pub lent : Option (Option (List ℕ))
  pub mid_stored : Option (List (List ℕ × Tables))
  pub loaded : IsLoaded store old first.state
  pub none : first.log ≡ []
  pub begun : first.state ≡ entries_replay first.opening first.log
  pub well : faults_by first.keeper ≡ 0
  pub starts : told_by first.keeper ≡ found_tables store old
  pub replayed : last.state ≡ entries_replay last.opening last.log
  pub tells : Tells (told_by last.keeper) last.state
  pub same : kept ≡ last.keeper
  pub later : mid ≡ old.stores.faults
  pub raised : IsRaised mid (faults_by kept) new.stores.faults
  pub out : lent ≡ Some store.db
  pub stays : old.stores.stored ≡ mid_stored
  pub returned : IsReturned lent (told_by kept) mid_stored new.stores.stored
  pub silent : new.streams.errors ≡ old.streams.errors

module _ {R K : Type 0} (step : Step R) (told_by : K → Option Tables) (faults_by : K → ℕ) (asked : Mirroring) (old new : Outside) (before after : ListenerView) (first last : Kept K)
    (b : IsBack told_by faults_by asked.store old new first last) (from to : R) where
  kept_same : last ≡ first → b.kept ≡ first.keeper
  kept_same same = b.same ∙ ap (λ (k : Kept K). k.keeper) same

  -- where neither ran, the store is as it was
  unused : HasNotRun first last old.streams.input new.streams.input old.streams.output new.streams.output → IsUnused old new
  unused h = record {
    input = h.unread;
    output = h.unwritten;
    stored = back_after asked.store.db b.lent (told_by first.keeper) (told_by b.kept) old.stores.stored b.mid_stored new.stores.stored b.out (sym b.stays) (ap told_by (kept_same h.same)) b.starts b.returned;
  }

  still : HasNotRun first last old.streams.input new.streams.input old.streams.output new.streams.output → new.stores.faults ≡ old.stores.faults
  still h = raised_by_none b.mid (faults_by b.kept) new.stores.faults (ap faults_by (kept_same h.same) ∙ b.well) b.raised ∙ b.later

  quiet : HasNotRun first last old.streams.input new.streams.input old.streams.output new.streams.output → NoCountRises old new
  quiet h = record {
    streams = record { input = ap (λ (t : Told). t.faults) h.unread; output = ap (λ (t : Told). t.faults) h.unwritten; errors = ap (λ (t : Told). t.faults) b.silent };
    stores = still h;
  }

  stores_later : old.stores.faults ≤ new.stores.faults
  stores_later = raised_later old.stores.faults b.mid (faults_by b.kept) new.stores.faults (let e = b.later in omega arith) b.raised

  errors_later : old.streams.errors.faults ≤ new.streams.errors.faults
  errors_later = let e = ap (λ (t : Told). t.faults) b.silent in omega arith

  none_falls : HasNotRun first last old.streams.input new.streams.input old.streams.output new.streams.output → NoCountFalls old new
  none_falls h =
      let i = ap (λ (t : Told). t.faults) h.unread in
      let o = ap (λ (t : Told). t.faults) h.unwritten in
      record { streams = record { input = omega arith; output = omega arith; errors = errors_later }; stores = stores_later }

  opening : first.opening ≡ first.state
  opening = sym (b.begun ∙ ap (entries_replay first.opening) b.none)

  -- the register was served and the lanes read
  mirrors : (how : SessionEnd) (whole : Bool) (heard : Listening) → HasEnded step told_by faults_by asked first last from to old.streams.input new.streams.input old.streams.output new.streams.output before after how whole heard
      → (m : Mirrors asked old new before after how) × (whole ≡ true → length m.published ≡ length m.serves.last.now.log) × (whole ≡ false → length m.published < length m.serves.last.now.log)
  mirrors how whole heard h =
      let s = serves_with step from to asked.store old new how told_by faults_by first last b.kept b.mid b.lent b.mid_stored b.loaded b.none b.begun b.well h.mirrored.session b.starts b.replayed b.tells b.same b.later b.raised b.out b.stays b.returned b.silent in
      let state : last.opening ≡ s.0.state = ap (λ (x : Seen). x.state) h.mirrored.session.opening ∙ (opening ∙ sym s.1) in
      let log = sym s.2 in
      let m : Mirrors asked old new before after how = record {
        bound = h.bound;
        serves = s.0;
        published = h.mirrored.published;
        follows = subst (λ (x : State × List (ℕ × Call)). IsFollowing x.0 x.1 h.mirrored.published) (λ i. (state i, log i)) h.mirrored.follows;
        back = h.back;
        returned = h.returned;
        many = h.many;
        lanes = h.lanes;
        read = subst (λ (x : State). AreReadLanes (Some (lists_of x)) h.mirrored.published h.back) state h.mirrored.read;
      } in (
        m,
        λ yes. h.mirrored.all yes ∙ ap length log,
        λ no. subst (λ (l : List (ℕ × Call)). length h.mirrored.published < length l) log (h.mirrored.lacks no),
      )

  pub of_ran : (ran : Ran) (status : ℕ) → status ≡ ran_status ran → before.faults ≤ after.faults
      → HasRun step told_by faults_by asked first last from to old.streams.input new.streams.input old.streams.output new.streams.output before after ran → IsMirror asked old new before after status
  of_ran Starved status is heard (h, idle) = subst (IsMirror asked old new before after) (sym is)
      (of_memory asked old new before after (not_used asked old new before after idle (none_falls h)) b.silent (inl (record { unused = unused h; quiet = quiet h; idle = idle })))
  of_ran Placeless status is heard (h, none) = subst (IsMirror asked old new before after) (sym is)
      (let lanes = none.lanes in
      let returned = ap length none.returned ∙ length-append before.returned none.back in
      of_fault asked old new before after (record { lanes_back = omega arith; bound = none.bound; later = none_falls h; listener_later = heard })
      (inr (inl (record { lanes = none; unused = unused h; silent = b.silent }))))
  of_ran (Ended how whole listening) status is heard h = subst (IsMirror asked old new before after) (sym is)
      (let m = mirrors how whole listening h in
      let lanes = h.lanes in
      let many = h.many in
      let returned = ap length h.returned ∙ length-append before.returned h.back in
      let cause = h.mirrored.cause in
      by_ran asked old new before after (record {
        lanes_back = omega arith;
        bound = λ came. h.bound;
        later = record { streams = record { input = cause.source_later; output = cause.sink_later; errors = errors_later }; stores = stores_later };
        listener_later = heard;
      }) how whole listening m.0 m.1 m.2 h.mirrored.memory cause h.listened)
