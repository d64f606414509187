-- What a run of `prefix-check` leaves, as its record has it, by where it ended.
use Rattle.std.proofs.Common.{◌≡◌, ℕ, ◌⊎◌, List, inl, inr, arith, Option, Some, None, IfSome}
use Rattle.inet_num.specs.Net.{Cidr}
use Rattle.prefix_list.proofs.Readings.{reading_is_one}
use Rattle.command_words.specs.declared.asked.ListAsked.{ListAsked}
use Rattle.command_streams.specs.Streams.{Told, EndsWith}
use Rattle.command_store.specs.Outside.{Outside, AnyFailed, AreSame, IsUnused, NoCountFalls, NoCountRises}
use Rattle.command_store.specs.Opening.{NamesFault, NamesFailure, FailsToSay}
use Rattle.command_lists.specs.Texts.{style_named}
use Rattle.command_lists.specs.Inputs.{GivesList}
use Rattle.command_lists.specs.PrefixList.{NamesAbsent, FailsToSayAbsent}
use Rattle.command_lists.specs.PrefixCheck.{IsCheckText, PrintsDifference, FailsToPrintDifference, NamesInput, FailsToSayInput, FailsToRead, IsCheckRefused, IsReadable, IsPrefixCheck}
use Rattle.command_lists.proofs.Presence.{not_absent}
use Rattle.command_lists.proofs.Stops.{TableStops, InputStops}

-- an input that gave a list is no refused one
readable_so : (asked : ListAsked) (old new : Told) (list : List Cidr) → GivesList asked old new list → IfSome old.bytes (IsReadable asked)
readable_so asked old new list given = go old.bytes given
  where
    go : (bytes : Option (List ℕ)) → GivesList asked (record { bytes = bytes; faults = old.faults }) new list → IfSome bytes (IsReadable asked)
    go None h = tt
    go (Some bytes) (few, is, ended) = (few, λ n refused. reading_is_one.apart (style_named asked.style) asked.name asked.family bytes list n is refused)

module _ (asked : ListAsked) (old new : Outside) (status : ℕ) (keeps : AreSame old.stores.stored new.stores.stored) (later : NoCountFalls old new)
    (quiet : status ≡ 5 → NoCountRises old new) where
  at_done : status ≡ 0 → PrintsDifference asked old new → IsPrefixCheck asked old new status
  at_done zero done = record {
    statuses = inl zero;
    done = λ z. done;
    refused = λ z. absurd (omega arith);
    fault = λ z. absurd (omega arith);
    store_fault = λ z. absurd (omega arith);
    memory = λ z. absurd (omega arith);
    exact = λ told none. inr (inr (
      zero,
      (done.of_both.0, done.of_both.2),
      not_absent asked old done.of_both.0 done.of_both.2 told,
      readable_so asked old.streams.input new.streams.input done.of_both.1 done.of_both.3,
    ));
    keeps = keeps;
    later = later;
    quiet = quiet;
  }

  refused_so : NamesFault asked.store old new ⊎ NamesAbsent asked old new ⊎ NamesInput asked old new → IsCheckRefused asked old
  refused_so (inl h) = inl (h.fault, h.bad)
  refused_so (inr (inl h)) = inr (inl (h.id, h.absent))
  refused_so (inr (inr h)) = inr (inr (h.message, h.cause))

  at_refused : status ≡ 1 → NamesFault asked.store old new ⊎ NamesAbsent asked old new ⊎ NamesInput asked old new → IsPrefixCheck asked old new status
  at_refused one refused = record {
    statuses = inr (inl one);
    done = λ z. absurd (omega arith);
    refused = λ z. refused;
    fault = λ z. absurd (omega arith);
    store_fault = λ z. absurd (omega arith);
    memory = λ z. absurd (omega arith);
    exact = λ told none. inr (inl (one, refused_so refused));
    keeps = keeps;
    later = later;
    quiet = quiet;
  }

  failed_so : FailsToPrintDifference asked old new ⊎ FailsToRead asked old new ⊎ FailsToSay asked.store old new ⊎ FailsToSayAbsent asked old new ⊎ FailsToSayInput asked old new
      → AnyFailed old new
  failed_so (inl h) = inl (inr (inl h.failed))
  failed_so (inr (inl h)) = inl (inl h.failed)
  failed_so (inr (inr (inl h))) = inl (inr (inr h.failed))
  failed_so (inr (inr (inr (inl h)))) = inl (inr (inr h.failed))
  failed_so (inr (inr (inr (inr h)))) = inl (inr (inr h.failed))

  at_fault : status ≡ 3
      → FailsToPrintDifference asked old new ⊎ FailsToRead asked old new ⊎ FailsToSay asked.store old new ⊎ FailsToSayAbsent asked old new ⊎ FailsToSayInput asked old new
      → IsPrefixCheck asked old new status
  at_fault three fault = record {
    statuses = inr (inr (inl three));
    done = λ z. absurd (omega arith);
    refused = λ z. absurd (omega arith);
    fault = λ z. fault;
    store_fault = λ z. absurd (omega arith);
    memory = λ z. absurd (omega arith);
    exact = λ told none. absurd (none (failed_so fault));
    keeps = keeps;
    later = later;
    quiet = quiet;
  }

  at_store : status ≡ 4 → NamesFailure old new → IsPrefixCheck asked old new status
  at_store four named = record {
    statuses = inr (inr (inr (inl four)));
    done = λ z. absurd (omega arith);
    refused = λ z. absurd (omega arith);
    fault = λ z. absurd (omega arith);
    store_fault = λ z. named;
    memory = λ z. absurd (omega arith);
    exact = λ told none. absurd (none (inr named.failed));
    keeps = keeps;
    later = later;
    quiet = quiet;
  }

  at_memory : status ≡ 5 → new.streams.output ≡ old.streams.output → new.streams.errors ≡ old.streams.errors → IsPrefixCheck asked old new status
  at_memory five unprinted silent = record {
    statuses = inr (inr (inr (inr five)));
    done = λ z. absurd (omega arith);
    refused = λ z. absurd (omega arith);
    fault = λ z. absurd (omega arith);
    store_fault = λ z. absurd (omega arith);
    memory = λ z. (unprinted, silent);
    exact = λ told none. inl five;
    keeps = keeps;
    later = later;
    quiet = quiet;
  }

  -- the difference was printed, or could not be
  pub of_printed : (text : List ℕ) → IsCheckText asked old new text → EndsWith old.streams.output new.streams.output text 0 status → new.streams.errors ≡ old.streams.errors
      → IsPrefixCheck asked old new status
  of_printed text is (inl e) silent = at_done e.0 (record { text = text; of_both = is; printed = e.1; silent = silent })
  of_printed text is (inr e) silent = at_fault e.0 (inl (record { failed = e.1; text = text; of_both = is; front = e.2; silent = silent }))

  -- the table was not read
  pub of_stopped : TableStops asked old new status → IsUnused old new → IsPrefixCheck asked old new status
  of_stopped (inl (one, inl h)) unused = at_refused one (inl h)
  of_stopped (inl (one, inr h)) unused = at_refused one (inr (inl h))
  of_stopped (inr (inl (three, inl h))) unused = at_fault three (inr (inr (inl h)))
  of_stopped (inr (inl (three, inr h))) unused = at_fault three (inr (inr (inr (inl h))))
  of_stopped (inr (inr (inl e))) unused = at_store e.0 e.1
  of_stopped (inr (inr (inr e))) unused = at_memory e.0 unused.output e.1

  -- the input gave no list
  pub of_no_list : InputStops asked old new status → new.streams.output ≡ old.streams.output → IsPrefixCheck asked old new status
  of_no_list (inl (one, h)) unprinted = at_refused one (inr (inr h))
  of_no_list (inr (inl (three, inl h))) unprinted = at_fault three (inr (inl h))
  of_no_list (inr (inl (three, inr h))) unprinted = at_fault three (inr (inr (inr (inr h))))
  of_no_list (inr (inr e)) unprinted = at_memory e.0 unprinted e.1
