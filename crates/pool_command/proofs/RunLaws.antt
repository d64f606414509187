-- The one relation of a run gives each promise.
use Rattle.std.proofs.Common.{◌≡◌, ℕ, ◌+◌, ◌≤◌, ◌⊎◌, length, refl, inl, inr, sym, ◌∙◌, ap, subst, arith, List, [], Option, None, Bool, true}
use Rattle.http_session.specs.declared.session.SessionEnd.{SessionEnd}
use Rattle.http_session.specs.declared.session.SessionEnd.TheVariants.{Closed, SourceFault, SinkFault, Memory as NoMemory}
use Rattle.command_streams.specs.Streams.{EndsWith, Failed, Gains, NeverRises, Streams, Told}
use Rattle.machine_session.specs.Alone.{plain_at}
use Rattle.machine_session.specs.Owned.{answers_certainly}
use Rattle.machine_command.specs.Outside.{NoCountFalls, StoreFailed, Stores}
use Rattle.machine_command.specs.Session.{HasFailedCall, IsSession, Prints, Serves, end_status}
use Rattle.machine_serving.specs.Serve.{IsServe}
use Rattle.machine_serving.specs.Views.{ListenerView, ListeningFailed, NobodyCame}
use Rattle.number_pools.specs.declared.calls.PoolCall.{PoolCall}
use Rattle.number_pools.specs.Rows.{Pools, empty_pools}
use Rattle.pool_keeper.specs.declared.tables.PoolTables.{PoolTables}
use Rattle.pool_opening.specs.declared.faults.PoolFault.{PoolFault}
use Rattle.pool_opening.specs.declared.faults.PoolFault.TheVariants.{BadRange, BadMember, BadNext, Keeper, Memory}
use Rattle.pool_opening.specs.Faults.{loaded}
use Rattle.pool_register.specs.Kept.{Seen, seen_step}
use Rattle.pool_service.specs.Protocol.{pool_protocol}
use Rattle.pool_store.specs.FaultWords.{IsSaid, fault_line}
use Rattle.pool_store.specs.Meaning.{pool_opener}
use Rattle.pool_words.specs.Asked.{Asks, IsNoCommand}
use Rattle.pool_words.specs.declared.asked.Command.{Command}
use Rattle.pool_words.specs.declared.asked.Command.TheVariants.{Session, Serve, Print, About}
use Rattle.pool_words.specs.declared.asked.Serving.{Serving}
use Rattle.pool_words.proofs.Unique.{words_ask_for_one}
use Rattle.pool_command.specs.Clauses.{AnyFailed, AsksServe, AsksSession, HasClauses, IsAnswered, IsDone, IsQuiet, ListenerFailed, RunsHaveClauses, place_of}
use Rattle.pool_command.specs.Runs.{Answers, PoolOutside, SaysUsage, usage_text}
use Rattle.pool_command.proofs.NotBegun.{no_command, none_fell, none_rose}
use Rattle.pool_command.proofs.Outcomes.{HasFailed, HasFailedStore, IsNamed, Outcome, RanOut, of_about, of_print, of_serve, of_session}
use Rattle.program_entry.proofs.Printed.{printed_quiet}
use Rattle.pool_command.specs.About.{topic_text}

-- what the record of a run of a command gives
record IsRunOf (words : List (List ℕ)) (command : Command) (old new : PoolOutside) (before after : ListenerView) (status : ℕ) : Type 0 where
  asks : Asks words command
  outcome : Outcome words old new before after status
  answers : Answers command old new before after status
  lanes_back : length after.returned + before.lanes ≡ length before.returned + after.lanes
  later : NoCountFalls old new
  listener_later : before.faults ≤ after.faults
  quiet : status ≡ 5 → IsQuiet words old new before after

-- ---- an outcome by its status

status_of : (words : List (List ℕ)) (old new : PoolOutside) (before after : ListenerView) (status : ℕ) → Outcome words old new before after status → (status ≤ 5) × ¬ (status ≡ 2)
status_of words old new before after status (inl o) = (let e = o.0 in (omega arith, λ two. omega arith))
status_of words old new before after status (inr (inl o)) = (let e = o.0 in (omega arith, λ two. omega arith))
status_of words old new before after status (inr (inr (inl o))) = (let e = o.0 in (omega arith, λ two. omega arith))
status_of words old new before after status (inr (inr (inr (inl o)))) = (let e = o.0 in (omega arith, λ two. omega arith))
status_of words old new before after status (inr (inr (inr (inr o)))) = (let e = o.0 in (omega arith, λ two. omega arith))

done_of : (words : List (List ℕ)) (old new : PoolOutside) (before after : ListenerView) (status : ℕ) → Outcome words old new before after status → status ≡ 0
    → IsDone words old new before after × (new.streams.errors ≡ old.streams.errors)
done_of words old new before after status (inl o) z = (o.1, o.2)
done_of words old new before after status (inr (inl o)) z = absurd (let e = o.0 in omega arith)
done_of words old new before after status (inr (inr (inl o))) z = absurd (let e = o.0 in omega arith)
done_of words old new before after status (inr (inr (inr (inl o)))) z = absurd (let e = o.0 in omega arith)
done_of words old new before after status (inr (inr (inr (inr o)))) z = absurd (let e = o.0 in omega arith)

refused_of : (words : List (List ℕ)) (old new : PoolOutside) (before after : ListenerView) (status : ℕ) → Outcome words old new before after status → status ≡ 1 → IsNamed words old new before after
refused_of words old new before after status (inl o) z = absurd (let e = o.0 in omega arith)
refused_of words old new before after status (inr (inl o)) z = o.1
refused_of words old new before after status (inr (inr (inl o))) z = absurd (let e = o.0 in omega arith)
refused_of words old new before after status (inr (inr (inr (inl o)))) z = absurd (let e = o.0 in omega arith)
refused_of words old new before after status (inr (inr (inr (inr o)))) z = absurd (let e = o.0 in omega arith)

fault_of : (words : List (List ℕ)) (old new : PoolOutside) (before after : ListenerView) (status : ℕ) → Outcome words old new before after status → status ≡ 3 → HasFailed words old new before after
fault_of words old new before after status (inl o) z = absurd (let e = o.0 in omega arith)
fault_of words old new before after status (inr (inl o)) z = absurd (let e = o.0 in omega arith)
fault_of words old new before after status (inr (inr (inl o))) z = o.1
fault_of words old new before after status (inr (inr (inr (inl o)))) z = absurd (let e = o.0 in omega arith)
fault_of words old new before after status (inr (inr (inr (inr o)))) z = absurd (let e = o.0 in omega arith)

store_fault_of : (words : List (List ℕ)) (old new : PoolOutside) (before after : ListenerView) (status : ℕ) → Outcome words old new before after status → status ≡ 4
    → HasFailedStore words old new before after
store_fault_of words old new before after status (inl o) z = absurd (let e = o.0 in omega arith)
store_fault_of words old new before after status (inr (inl o)) z = absurd (let e = o.0 in omega arith)
store_fault_of words old new before after status (inr (inr (inl o))) z = absurd (let e = o.0 in omega arith)
store_fault_of words old new before after status (inr (inr (inr (inl o)))) z = o.1
store_fault_of words old new before after status (inr (inr (inr (inr o)))) z = absurd (let e = o.0 in omega arith)

memory_of : (words : List (List ℕ)) (old new : PoolOutside) (before after : ListenerView) (status : ℕ) → Outcome words old new before after status → status ≡ 5 → RanOut words old new
memory_of words old new before after status (inl o) z = absurd (let e = o.0 in omega arith)
memory_of words old new before after status (inr (inl o)) z = absurd (let e = o.0 in omega arith)
memory_of words old new before after status (inr (inr (inl o))) z = absurd (let e = o.0 in omega arith)
memory_of words old new before after status (inr (inr (inr (inl o)))) z = absurd (let e = o.0 in omega arith)
memory_of words old new before after status (inr (inr (inr (inr o)))) z = o.1

-- where nothing fails a command ends by itself
complete_of : (words : List (List ℕ)) (command : Command) (old new : PoolOutside) (before after : ListenerView) (status : ℕ) → Asks words command → Outcome words old new before after status
    → (¬ AnyFailed old new) → (¬ ListenerFailed command before after) → (status ≡ 0) ⊎ (status ≡ 1) ⊎ (status ≡ 5)
complete_of words command old new before after status asks (inl o) well heard = inl o.0
complete_of words command old new before after status asks (inr (inl o)) well heard = inr (inl o.0)
complete_of words command old new before after status asks (inr (inr (inl o))) well heard =
    absurd (elim o.1 [
      | inl failed ↦ well (inl (inl failed))
      | inr more ↦ elim more [
        | inl failed ↦ well (inl (inr (inl failed)))
        | inr rest ↦ elim rest [
          | inl failed ↦ well (inl (inr (inr failed)))
          | inr l ↦ heard (subst (λ (c : Command). ListenerFailed c before after) (words_ask_for_one words (Serve l.0) command l.1 asks) l.2)
        ]
      ]
    ])
complete_of words command old new before after status asks (inr (inr (inr (inl o)))) well heard = absurd (well (inr o.1.2.failed))
complete_of words command old new before after status asks (inr (inr (inr (inr o)))) well heard = inr (inr o.0)

-- only `serve` uses the listener
idle_of : (words : List (List ℕ)) (command : Command) (old new : PoolOutside) (before after : ListenerView) (status : ℕ) → Asks words command → Answers command old new before after status
    → ((s : Serving) → ¬ AsksServe words s) → after ≡ before
idle_of words (Session db) old new before after status asks answers none = answers.1
idle_of words (Serve s) old new before after status asks answers none = absurd (none s asks)
idle_of words (Print listing db) old new before after status asks answers none = answers.1
idle_of words (About topic) old new before after status asks answers none = answers.2

-- ---- what the record of `session` gives

-- it is the input that failed where neither the output nor the messages did
starved_by : (db : Option (List ℕ)) (old new : PoolOutside) (status : ℕ) → IsSession pool_protocol pool_opener db old new status → status ≡ 3 → ¬ Failed old.streams.output new.streams.output
    → ¬ Failed old.streams.errors new.streams.errors → Failed old.streams.input new.streams.input × Serves pool_protocol pool_opener db old new SourceFault
starved_by db old new status s z output errors = elim s.run [
  | inl r ↦ by_end r.0 r.1 r.2.source r.2.sink r.3
  | inr r ↦ absurd (unsaid r.fault r.said)
]
  where
    by_end : (end_ : SessionEnd) → Serves pool_protocol pool_opener db old new end_ → (end_ ≡ SourceFault → Failed old.streams.input new.streams.input)
        → (end_ ≡ SinkFault → Failed old.streams.output new.streams.output) → status ≡ end_status end_
        → Failed old.streams.input new.streams.input × Serves pool_protocol pool_opener db old new SourceFault
    by_end (Closed n) serves source sink is = absurd (omega arith)
    by_end SourceFault serves source sink is = (source refl, serves)
    by_end SinkFault serves source sink is = absurd (output (sink refl))
    by_end NoMemory serves source sink is = absurd (omega arith)

    line_failed : (line : List ℕ) (wanted : ℕ) → ¬ (wanted ≡ 3) → EndsWith old.streams.errors new.streams.errors line wanted status → ⊥
    line_failed line wanted other (inl said) = other (sym said.0 ∙ z)
    line_failed line wanted other (inr said) = errors said.1

    unsaid : (fault : PoolFault) → IsSaid fault old.streams.errors new.streams.errors status → ⊥
    unsaid Keeper said = line_failed (fault_line Keeper) 4 (λ e. omega arith) said
    unsaid (BadRange id) said = line_failed (fault_line (BadRange id)) 1 (λ e. omega arith) said
    unsaid (BadMember id) said = line_failed (fault_line (BadMember id)) 1 (λ e. omega arith) said
    unsaid BadNext said = line_failed (fault_line BadNext) 1 (λ e. omega arith) said
    unsaid Memory said = let e = said.0 in omega arith

-- pools that were loaded from empty tables are empty, and tell theirs
one_seen : (s : Seen) (p : Pools) → s.pools ≡ p → s.tells ≡ true → s ≡ record { pools = p; tells = true }
one_seen s p e f = ap (λ (q : Pools). record { pools = q; tells = s.tells }) e ∙ ap (λ (b : Bool). record { pools = p; tells = b }) f

empty_of : (old new : PoolOutside) → IsAnswered None old new → (¬ StoreFailed old new)
    → Prints (answers_certainly pool_protocol) (plain_at seen_step (record { pools = empty_pools; tells = true }) []) old.streams new.streams
empty_of old new a well =
    let opened = a.loaded.pools in
    let first = one_seen a.first.opening empty_pools (opened.are ∙ ap loaded (sym opened.held)) a.loaded.tells in
    let log = a.fresh.0 in
    subst (λ (x : Seen × List (ℕ × PoolCall)). Prints (answers_certainly pool_protocol) (plain_at seen_step x.0 x.1) old.streams new.streams) (λ i. (first i, log i)) (a.certain well)

answered_of : (words : List (List ℕ)) (db : Option (List ℕ)) (old new : PoolOutside) (before after : ListenerView) → AsksSession words db → IsDone words old new before after → IsAnswered db old new
answered_of words db old new before after asks (inl d) =
    (let same : Session d.0 ≡ Session db = words_ask_for_one words (Session d.0) (Session db) d.1 asks in
    let one : d.0 ≡ db = cc in
    subst (λ (p : Option (List ℕ)). IsAnswered p old new) one d.2)
answered_of words db old new before after asks (inr (inr (inl d))) = absurd (let wrong : About d.0 ≡ Session db = words_ask_for_one words (About d.0) (Session db) d.1 asks in cc)
answered_of words db old new before after asks (inr (inr (inr d))) =
    absurd (let wrong : Print d.0 d.1 ≡ Session db = words_ask_for_one words (Print d.0 d.1) (Session db) d.2 asks in cc)
answered_of words db old new before after asks (inr (inl d)) = absurd (let wrong : Serve d.0 ≡ Session db = words_ask_for_one words (Serve d.0) (Session db) d.1 asks in cc)

-- ---- all clauses

of_run : (words : List (List ℕ)) (command : Command) (old new : PoolOutside) (before after : ListenerView) (status : ℕ) → IsRunOf words command old new before after status
    → HasClauses words old new before after status
of_run words command old new before after status r =
    let is : (other : Command) → Asks words other → Answers other old new before after status =
    λ other a. subst (λ (c : Command). Answers c old new before after status) (words_ask_for_one words command other r.asks a) r.answers in
    record {
      status_ = (status_of words old new before after status r.outcome).0;
      done = done_of words old new before after status r.outcome;
      refused = refused_of words old new before after status r.outcome;
      usage = λ z. absurd ((status_of words old new before after status r.outcome).1 z);
      usage_first = λ none. absurd (none command r.asks);
      fault = fault_of words old new before after status r.outcome;
      starved = λ db a z output errors. starved_by db old new status (is (Session db) a).0 z output errors;
      store_fault = store_fault_of words old new before after status r.outcome;
      memory = memory_of words old new before after status r.outcome;
      no_listener = idle_of words command old new before after status r.asks r.answers;
      lanes_back = r.lanes_back;
      session = λ db a. (is (Session db) a).0;
      serve = λ s a. is (Serve s) a;
      answers = is;
      empty = λ a well z. empty_of old new (answered_of words None old new before after a (done_of words old new before after status r.outcome z).0) well;
      complete = λ other a well heard. complete_of words other old new before after status a r.outcome well heard;
      later = r.later;
      listener_later = r.listener_later;
      quiet = r.quiet;
    }

lanes_kept : (before after : ListenerView) → after ≡ before → length after.returned + before.lanes ≡ length before.returned + after.lanes
lanes_kept before after same =
    ap (λ (v : ListenerView). length v.returned + before.lanes) same ∙ ap (λ (n : ℕ). length before.returned + n) (sym (ap (λ (v : ListenerView). v.lanes) same))

count_kept : (before after : ListenerView) → after ≡ before → before.faults ≤ after.faults
count_kept before after same = let e = ap (λ (v : ListenerView). v.faults) same in omega arith

run_of : (words : List (List ℕ)) (command : Command) (old new : PoolOutside) (before after : ListenerView) (status : ℕ) → Asks words command → Answers command old new before after status
    → IsRunOf words command old new before after status
run_of words (Session db) old new before after status asks answers = record {
  asks = asks;
  outcome = of_session words old new before after status db asks answers.0 answers.1;
  answers = answers;
  lanes_back = lanes_kept before after answers.1;
  later = answers.0.later;
  listener_later = count_kept before after answers.1;
  quiet = λ z. (
      let q = answers.0.quiet z in
      record {
        streams = q.0;
        stores = elim q.1 [ inl same ↦ inl same | inr failed ↦ inr (db, asks, failed) ];
        listener = ap (λ (v : ListenerView). v.faults) answers.1;
      });
}
run_of words (Serve s) old new before after status asks answers = record {
  asks = asks;
  outcome = of_serve words old new before after status s asks answers;
  answers = answers;
  lanes_back = answers.lanes_back;
  later = answers.later;
  listener_later = answers.listener_later;
  quiet = λ z. (let q = answers.quiet z in record { streams = q.0; stores = inl q.1; listener = ap (λ (v : ListenerView). v.faults) q.2 });
}
run_of words (Print listing db) old new before after status asks answers = record {
  asks = asks;
  outcome = of_print words old new before after status listing db asks answers.0 answers.1;
  answers = answers;
  lanes_back = lanes_kept before after answers.1;
  later = answers.0.later;
  listener_later = count_kept before after answers.1;
  quiet = λ z. (let q = answers.0.quiet z in record { streams = q.0; stores = inl q.1; listener = ap (λ (v : ListenerView). v.faults) answers.1 });
}
run_of words (About topic) old new before after status asks answers = record {
  asks = asks;
  outcome = of_about words old new before after status topic asks answers.0;
  answers = answers;
  lanes_back = lanes_kept before after answers.2;
  later = record { streams = answers.0.later; stores = (let e = ap (λ (t : Stores PoolTables). t.faults) answers.1 in omega arith) };
  listener_later = count_kept before after answers.2;
  quiet = λ z. record {
    streams = printed_quiet (topic_text topic) old.streams new.streams status answers.0 z;
    stores = inl (ap (λ (t : Stores PoolTables). t.faults) answers.1);
    listener = ap (λ (v : ListenerView). v.faults) answers.2;
  };
}

-- ---- words that ask for nothing

said_two : (old new : Told) (status : ℕ) → EndsWith old new usage_text 2 status → (status ≡ 2) ⊎ ((status ≡ 3) × Failed old new) ⊎ ((status ≡ 5) × (new ≡ old))
said_two old new status (inl said) = inl said.0
said_two old new status (inr said) = inr (inl (said.0, said.1))

two_or_three : (old new : Told) (status : ℕ) → EndsWith old new usage_text 2 status → (status ≤ 3) × (2 ≤ status)
two_or_three old new status (inl said) = (let e = said.0 in (omega arith, omega arith))
two_or_three old new status (inr said) = (let e = said.0 in (omega arith, omega arith))

gained : (old new : Told) (status : ℕ) → EndsWith old new usage_text 2 status → status ≡ 2 → Gains old new usage_text
gained old new status (inl said) z = said.1
gained old new status (inr said) z = absurd (let e = said.0 in omega arith)

failed_to_say : (old new : Told) (status : ℕ) → EndsWith old new usage_text 2 status → status ≡ 3 → Failed old new
failed_to_say old new status (inl said) z = absurd (let e = said.0 in omega arith)
failed_to_say old new status (inr said) z = said.1

of_usage : (words : List (List ℕ)) (old new : PoolOutside) (before after : ListenerView) (status : ℕ) → IsNoCommand words → SaysUsage old new before after status
    → HasClauses words old new before after status
of_usage words old new before after status none u =
    let said = u.0.said in
    let range = two_or_three old.streams.errors new.streams.errors status said in
    let most = range.0 in
    let least = range.1 in
    record {
      status_ = omega arith;
      done = λ z. absurd (omega arith);
      refused = λ z. absurd (omega arith);
      usage = λ z. (none, gained old.streams.errors new.streams.errors status said z);
      usage_first = λ still. (u.0.input, u.0.output, u.1, u.2, said_two old.streams.errors new.streams.errors status said);
      fault = λ z. inr (inr (inl (failed_to_say old.streams.errors new.streams.errors status said z)));
      starved = λ db a. absurd (none (Session db) a);
      store_fault = λ z. absurd (omega arith);
      memory = λ z. absurd (omega arith);
      no_listener = λ nobody. u.2;
      lanes_back = lanes_kept before after u.2;
      session = λ db a. absurd (none (Session db) a);
      serve = λ s a. absurd (none (Serve s) a);
      answers = λ command a. absurd (none command a);
      empty = λ a. absurd (none (Session None) a);
      complete = λ command a. absurd (none command a);
      later = record { streams = u.0.later; stores = (let e = ap (λ (t : Stores PoolTables). t.faults) u.1 in omega arith) };
      listener_later = count_kept before after u.2;
      quiet = λ z. absurd (omega arith);
    }

-- ---- words that could not be read

of_want : (words : List (List ℕ)) (old new : PoolOutside) (before after : ListenerView) (status : ℕ) → status ≡ 5 → new ≡ old → after ≡ before
    → HasClauses words old new before after status
of_want words old new before after status five same idle = record {
  status_ = omega arith;
  done = λ z. absurd (omega arith);
  refused = λ z. absurd (omega arith);
  usage = λ z. absurd (omega arith);
  usage_first = λ none. (
    ap (λ (o : PoolOutside). o.streams.input) same,
    ap (λ (o : PoolOutside). o.streams.output) same,
    ap (λ (o : PoolOutside). o.stores) same,
    idle,
    inr (inr (five, ap (λ (o : PoolOutside). o.streams.errors) same)),
  );
  fault = λ z. absurd (omega arith);
  starved = λ db a z. absurd (omega arith);
  store_fault = λ z. absurd (omega arith);
  memory = λ z. (ap (λ (o : PoolOutside). o.streams.errors) same, inr (ap (λ (o : PoolOutside). o.streams.output) same));
  no_listener = λ none. idle;
  lanes_back = lanes_kept before after idle;
  session = λ db a. (no_command (Session db) old new before after status five same idle).0;
  serve = λ s a. no_command (Serve s) old new before after status five same idle;
  answers = λ command a. no_command command old new before after status five same idle;
  empty = λ a well z. absurd (omega arith);
  complete = λ command a well heard. inr (inr five);
  later = none_fell old new same;
  listener_later = count_kept before after idle;
  quiet = λ z. record {
    streams = none_rose old new same;
    stores = inl (ap (λ (o : PoolOutside). o.stores.faults) same);
    listener = ap (λ (v : ListenerView). v.faults) idle;
  };
}

pub runs_have_clauses : RunsHaveClauses
runs_have_clauses = λ words old new before after status runs. elim runs [
  | inl r ↦ of_run words r.0 old new before after status (run_of words r.0 old new before after status r.1 r.2)
  | inr more ↦ elim more [
    | inl r ↦ of_usage words old new before after status r.0 r.1
    | inr r ↦ of_want words old new before after status r.0 r.1 r.2
  ]
]
