-- What a mirror leaves whose opening was refused, as the command's record has it.
use Rattle.std.proofs.Common.{◌≡◌, ℕ, ◌⊎◌, inl, inr, refl, subst, sym, arith}
use Rattle.stored_tables.specs.declared.opening.OpenFault.{OpenFault}
use Rattle.stored_tables.specs.declared.opening.OpenFault.TheVariants.{Keeper, BadTables, Memory, BadRow, Version, BadNext, Limit}
use Rattle.stored_tables.specs.Opening.{IsOfTables}
use Rattle.register_core.specs.Opened.{IsUnopened}
use Rattle.machine_serving.specs.Views.{ListenerView}
use Rattle.command_streams.specs.Streams.{EndsWith}
use Rattle.command_store.specs.Outside.{Outside, StoreFailed, IsUnused, NoCountFalls, NoCountRises}
use Rattle.command_store.specs.FaultWords.{IsSaid, fault_line}
use Rattle.command_store.specs.Opening.{NamesFailure, NamesFault, found_tables, IsBadStore}
use Rattle.command_words.specs.declared.asked.Mirroring.{Mirroring}
use Rattle.command_mirror.specs.Mirror.{IsMirror}
use Rattle.command_mirror.proofs.Ended.{Whatever, not_used, of_fault, of_memory}

module _ (asked : Mirroring) (old new : Outside) (before : ListenerView) (unused : IsUnused old new) (later : NoCountFalls old new) where
  all : Whatever asked old new before before
  all = not_used asked old new before before refl later

  named : NamesFault asked.store old new → IsMirror asked old new before before 1
  named k = record {
    statuses = inr (inl refl);
    done = λ z. absurd (omega arith);
    refused = λ z. (k, refl);
    fault = λ z. absurd (omega arith);
    store_fault = λ z. absurd (omega arith);
    memory = λ z. absurd (omega arith);
    lanes_back = all.lanes_back;
    bound = all.bound;
    later = all.later;
    listener_later = all.listener_later;
  }

  failed : NamesFailure old new → IsMirror asked old new before before 4
  failed k = record {
    statuses = inr (inr (inr (inl refl)));
    done = λ z. absurd (omega arith);
    refused = λ z. absurd (omega arith);
    fault = λ z. absurd (omega arith);
    store_fault = λ z. (k, refl);
    memory = λ z. absurd (omega arith);
    lanes_back = all.lanes_back;
    bound = all.bound;
    later = all.later;
    listener_later = all.listener_later;
  }

  of_status : (n status : ℕ) → status ≡ n → IsMirror asked old new before before n → IsMirror asked old new before before status
  of_status n status is k = subst (IsMirror asked old new before before) (sym is) k

  -- for lack of memory
  starved : (status : ℕ) → status ≡ 5 → new.streams.errors ≡ old.streams.errors → NoCountRises old new → IsMirror asked old new before before status
  starved status five silent none = of_status 5 status five (of_memory asked old new before before all silent (inl (record { unused = unused; quiet = none; idle = refl })))

  -- since the store failed
  of_keeper : (status : ℕ) → StoreFailed old new → EndsWith old.streams.errors new.streams.errors (fault_line Keeper) 4 status → IsMirror asked old new before before status
  of_keeper status cause (inl said) = of_status 4 status said.0 (failed (record { failed = cause; said = said.1; unused = unused }))
  of_keeper status cause (inr said) = of_status 3 status said.0
      (of_fault asked old new before before all (inr (inr (record { failed = said.1; fault = Keeper; cause = inr (refl, cause); front = said.2; unused = unused }, refl))))

  -- for what the store holds
  of_bad : (status : ℕ) (fault : OpenFault) → IsBadStore asked.store old fault
      → EndsWith old.streams.errors new.streams.errors (fault_line fault) 1 status ⊎ ((status ≡ 5) × (new.streams.errors ≡ old.streams.errors)) → (status ≡ 5 → NoCountRises old new)
      → IsMirror asked old new before before status
  of_bad status fault bad (inl (inl said)) none = of_status 1 status said.0 (named (record { fault = fault; bad = bad; said = said.1; unused = unused }))
  of_bad status fault bad (inl (inr said)) none = of_status 3 status said.0
      (of_fault asked old new before before all (inr (inr (record { failed = said.1; fault = fault; cause = inl bad; front = said.2; unused = unused }, refl))))
  of_bad status fault bad (inr said) none = starved status said.0 said.1 (none said.0)

  pub of_refused : (status : ℕ) (fault : OpenFault) → (IsOfTables fault → IsUnopened (found_tables asked.store old) asked.store.global_unique fault) → (fault ≡ Keeper → StoreFailed old new)
      → IsSaid fault old.streams.errors new.streams.errors status → (status ≡ 5 → NoCountRises old new) → IsMirror asked old new before before status
  of_refused status Keeper bad cause said none = of_keeper status (cause refl) said
  of_refused status Memory bad cause said none = starved status said.0 said.1 (none said.0)
  of_refused status (BadTables kind n rule) bad cause said none = of_bad status (BadTables kind n rule) (record { of_tables = tt; refused = bad tt }) said none
  of_refused status (BadRow kind n) bad cause said none = of_bad status (BadRow kind n) (record { of_tables = tt; refused = bad tt }) said none
  of_refused status (Version n) bad cause said none = of_bad status (Version n) (record { of_tables = tt; refused = bad tt }) said none
  of_refused status (BadNext kind) bad cause said none = of_bad status (BadNext kind) (record { of_tables = tt; refused = bad tt }) said none
  of_refused status (Limit which n) bad cause said none = of_bad status (Limit which n) (record { of_tables = tt; refused = bad tt }) said none
