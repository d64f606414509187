-- What a run of `serve` leaves that served nobody, as the command's record has it.
use Rattle.std.proofs.Common.{◌≡◌, ℕ, ◌+◌, ◌≤◌, ◌<◌, ◌⊎◌, List, inl, inr, Option, Some, None, Err, length, refl, subst, sym, ◌∙◌, ap, arith}
use Rattle.ipam_edge.specs.Faults.{Rose as EdgeRose}
use Rattle.stored_tables.specs.declared.tables.Tables.{Tables}
use Rattle.stored_tables.specs.declared.opening.OpenFault.{OpenFault}
use Rattle.stored_tables.specs.declared.opening.OpenFault.TheVariants.{Keeper, BadTables, Memory, BadRow, Version, BadNext, Limit}
use Rattle.stored_tables.specs.Opening.{IsOfTables}
use Rattle.register_core.specs.Opened.{IsUnopened}
use Rattle.ipam_listen.specs.Connections.{Returned}
use Rattle.command_words.specs.declared.asked.Store.{Store}
use Rattle.command_words.specs.declared.asked.Serving.{Serving}
use Rattle.command_streams.specs.Streams.{Told, Streams, EndsWith}
use Rattle.command_store.specs.Outside.{Outside, StoreFailed, AreSame, IsUnused, NoCountFalls, NoCountRises}
use Rattle.command_store.specs.FaultWords.{IsSaid, fault_line}
use Rattle.command_store.specs.Opening.{found_tables, IsBadStore}
use Rattle.command_store.proofs.Refused.{not_used}
use Rattle.machine_serving.specs.Views.{ListenerView, ListeningFailed, NoneFailed, NobodyCame}
use Rattle.command_serve.specs.Serve.{IsBoundBy, IsUnserved, IsServe}

-- what holds of a run whatever its status
pub record Whatever (serving : Serving) (old new : Outside) (before after : ListenerView) (status : ℕ) : Type 0 where
  pub unread : new.streams.input ≡ old.streams.input
  pub lanes_back : length after.returned + before.lanes ≡ length before.returned + after.lanes
  pub later : NoCountFalls old new
  pub listener_later : before.faults ≤ after.faults
  pub quiet : status ≡ 5 → NoCountRises old new

-- streams of which each is as before
pub same_streams : (a b : Streams) → b.input ≡ a.input → b.output ≡ a.output → b.errors ≡ a.errors → b ≡ a
same_streams a b i o e =
    ap (λ (t : Told). record { input = t; output = b.output; errors = b.errors }) i
    ∙ ap (λ (t : Told). record { input = a.input; output = t; errors = b.errors }) o
    ∙ ap (λ (t : Told). record { input = a.input; output = a.output; errors = t }) e

-- nobody came where the listener was not used
nobody_came : (before after : ListenerView) → after ≡ before → NobodyCame before after
nobody_came before after idle = record { lanes = ap (λ (d : ListenerView). d.lanes) idle; returned = ap (λ (d : ListenerView). d.returned) idle }

-- then no lane came that the listener would be bound for
nobody_bound : (serving : Serving) (before after : ListenerView) → NobodyCame before after → before.lanes < after.lanes → IsBoundBy serving after
nobody_bound serving before after none came = let same = none.lanes in absurd (omega arith)

-- for lack of memory
pub of_memory : (serving : Serving) (old new : Outside) (before after : ListenerView) (status : ℕ) → Whatever serving old new before after status
    → new.streams.output ≡ old.streams.output → AreSame old.stores.stored new.stores.stored → after ≡ before
    → status ≡ 5 → new.streams.errors ≡ old.streams.errors → IsServe serving old new before after status
of_memory serving old new before after status all output left idle five silent = let none = nobody_came before after idle in record {
  statuses = inr (inr (inr (inr five)));
  done = λ z. absurd (omega arith);
  refused = λ z. absurd (omega arith);
  fault = λ z. absurd (omega arith);
  store_fault = λ z. absurd (omega arith);
  memory = λ z. (record { streams = same_streams old.streams new.streams all.unread output silent; stored = left; nobody = none }, idle);
  unread = all.unread;
  lanes_back = all.lanes_back;
  bound = nobody_bound serving before after none;
  later = all.later;
  listener_later = all.listener_later;
  quiet = all.quiet;
}

-- since the store failed
of_keeper : (serving : Serving) (old new : Outside) (before after : ListenerView) (status : ℕ) → Whatever serving old new before after status
    → StoreFailed old new → IsUnused old new → after ≡ before
    → EndsWith old.streams.errors new.streams.errors (fault_line Keeper) 4 status → IsServe serving old new before after status
of_keeper serving old new before after status all failed unused idle (inl said) = let four = said.0 in let none = nobody_came before after idle in record {
  statuses = inr (inr (inr (inl four)));
  done = λ z. absurd (omega arith);
  refused = λ z. absurd (omega arith);
  fault = λ z. absurd (omega arith);
  store_fault = λ z. (record { failed = failed; said = said.1; unused = unused }, idle);
  memory = λ z. absurd (omega arith);
  unread = all.unread;
  lanes_back = all.lanes_back;
  bound = nobody_bound serving before after none;
  later = all.later;
  listener_later = all.listener_later;
  quiet = all.quiet;
}
of_keeper serving old new before after status all failed unused idle (inr said) = let three = said.0 in let none = nobody_came before after idle in record {
  statuses = inr (inr (inl three));
  done = λ z. absurd (omega arith);
  refused = λ z. absurd (omega arith);
  fault = λ z. inr (inr (inr (record { failed = said.1; fault = Keeper; cause = inr (refl, failed); front = said.2; unused = unused }, idle)));
  store_fault = λ z. absurd (omega arith);
  memory = λ z. absurd (omega arith);
  unread = all.unread;
  lanes_back = all.lanes_back;
  bound = nobody_bound serving before after none;
  later = all.later;
  listener_later = all.listener_later;
  quiet = all.quiet;
}

-- for what the store holds
of_bad : (serving : Serving) (old new : Outside) (before after : ListenerView) (status : ℕ) (fault : OpenFault) → Whatever serving old new before after status
    → IsBadStore serving.store old fault → IsUnused old new → after ≡ before
    → EndsWith old.streams.errors new.streams.errors (fault_line fault) 1 status → IsServe serving old new before after status
of_bad serving old new before after status fault all bad unused idle (inl said) = let one = said.0 in let none = nobody_came before after idle in record {
  statuses = inr (inl one);
  done = λ z. absurd (omega arith);
  refused = λ z. (record { fault = fault; bad = bad; said = said.1; unused = unused }, idle);
  fault = λ z. absurd (omega arith);
  store_fault = λ z. absurd (omega arith);
  memory = λ z. absurd (omega arith);
  unread = all.unread;
  lanes_back = all.lanes_back;
  bound = nobody_bound serving before after none;
  later = all.later;
  listener_later = all.listener_later;
  quiet = all.quiet;
}
of_bad serving old new before after status fault all bad unused idle (inr said) = let three = said.0 in let none = nobody_came before after idle in record {
  statuses = inr (inr (inl three));
  done = λ z. absurd (omega arith);
  refused = λ z. absurd (omega arith);
  fault = λ z. inr (inr (inr (record { failed = said.1; fault = fault; cause = inl bad; front = said.2; unused = unused }, idle)));
  store_fault = λ z. absurd (omega arith);
  memory = λ z. absurd (omega arith);
  unread = all.unread;
  lanes_back = all.lanes_back;
  bound = nobody_bound serving before after none;
  later = all.later;
  listener_later = all.listener_later;
  quiet = all.quiet;
}

-- nothing was used
unused : (serving : Serving) (old new : Outside) (before after : ListenerView) (status : ℕ) → Whatever serving old new before after status
    → new.streams.output ≡ old.streams.output → AreSame old.stores.stored new.stores.stored → IsUnused old new
unused serving old new before after status all output left = record { input = all.unread; output = output; stored = left }

-- the tables of the store have a fault, which was said, or memory ran out to say it
of_tables : (serving : Serving) (old new : Outside) (before after : ListenerView) (status : ℕ) (fault : OpenFault) → Whatever serving old new before after status
    → new.streams.output ≡ old.streams.output → AreSame old.stores.stored new.stores.stored → after ≡ before → IsBadStore serving.store old fault
    → EndsWith old.streams.errors new.streams.errors (fault_line fault) 1 status ⊎ ((status ≡ 5) × (new.streams.errors ≡ old.streams.errors))
    → IsServe serving old new before after status
of_tables serving old new before after status fault all output left idle bad (inl said) =
    of_bad serving old new before after status fault all bad (unused serving old new before after status all output left) idle said
of_tables serving old new before after status fault all output left idle bad (inr said) = of_memory serving old new before after status all output left idle said.0 said.1

-- the place could not be had
pub of_place : (serving : Serving) (old new : Outside) (before after : ListenerView) (status : ℕ) → Whatever serving old new before after status
    → new.streams.output ≡ old.streams.output → AreSame old.stores.stored new.stores.stored → NobodyCame before after → ListeningFailed before after
    → status ≡ 3 → new.streams.errors ≡ old.streams.errors → IsServe serving old new before after status
of_place serving old new before after status all output left none failed three silent = record {
  statuses = inr (inr (inl three));
  done = λ z. absurd (omega arith);
  refused = λ z. absurd (omega arith);
  fault = λ z. inr (inr (inl (record {
    failed = failed;
    unserved = record { streams = same_streams old.streams new.streams all.unread output silent; stored = left; nobody = none };
  })));
  store_fault = λ z. absurd (omega arith);
  memory = λ z. absurd (omega arith);
  unread = all.unread;
  lanes_back = all.lanes_back;
  bound = nobody_bound serving before after none;
  later = all.later;
  listener_later = all.listener_later;
  quiet = all.quiet;
}

-- the opening was refused for this
pub of_fault : (serving : Serving) (old new : Outside) (before after : ListenerView) (status : ℕ) (fault : OpenFault) → Whatever serving old new before after status
    → new.streams.output ≡ old.streams.output → AreSame old.stores.stored new.stores.stored → after ≡ before
    → (IsOfTables fault → IsUnopened (found_tables serving.store old) serving.store.global_unique fault) → (fault ≡ Keeper → StoreFailed old new)
    → IsSaid fault old.streams.errors new.streams.errors status → IsServe serving old new before after status
of_fault serving old new before after status Keeper all output left idle cause failed said =
    of_keeper serving old new before after status all (failed refl) (unused serving old new before after status all output left) idle said
of_fault serving old new before after status Memory all output left idle cause failed said =
    of_memory serving old new before after status all output left idle said.0 said.1
of_fault serving old new before after status (BadTables kind n rule) all output left idle cause failed said =
    of_tables serving old new before after status (BadTables kind n rule) all output left idle (record { of_tables = tt; refused = cause tt }) said
of_fault serving old new before after status (BadRow kind n) all output left idle cause failed said =
    of_tables serving old new before after status (BadRow kind n) all output left idle (record { of_tables = tt; refused = cause tt }) said
of_fault serving old new before after status (Version n) all output left idle cause failed said =
    of_tables serving old new before after status (Version n) all output left idle (record { of_tables = tt; refused = cause tt }) said
of_fault serving old new before after status (BadNext kind) all output left idle cause failed said =
    of_tables serving old new before after status (BadNext kind) all output left idle (record { of_tables = tt; refused = cause tt }) said
of_fault serving old new before after status (Limit which n) all output left idle cause failed said =
    of_tables serving old new before after status (Limit which n) all output left idle (record { of_tables = tt; refused = cause tt }) said

-- where memory ran out before anything was used
pub not_begun : (serving : Serving) (old new : Outside) (before after : ListenerView) (status : ℕ) → status ≡ 5 → new ≡ old → after ≡ before
    → IsServe serving old new before after status
not_begun serving old new before after status five same same_listener =
    subst (λ (t : Outside). IsServe serving old t before after status) (sym same)
    (subst (λ (d : ListenerView). IsServe serving old old before d status) (sym same_listener)
    (of_memory serving old old before before status
    (record {
      unread = refl;
      lanes_back = refl;
      later = record { streams = record { input = omega arith; output = omega arith; errors = omega arith }; stores = omega arith };
      listener_later = omega arith;
      quiet = λ z. record { streams = record { input = refl; output = refl; errors = refl }; stores = refl };
    })
    refl (not_used old.stores.stored) refl five refl))
