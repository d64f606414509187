-- What a session leaves whose opening was refused, as the command's record has it.
use Rattle.std.proofs.Common.{◌≡◌, ℕ, ◌⊎◌, inl, inr, refl, subst, sym, arith}
use Rattle.stored_tables.specs.declared.opening.OpenFault.{OpenFault}
use Rattle.stored_tables.specs.declared.opening.OpenFault.TheVariants.{Keeper, BadTables, Memory, BadRow, Version, BadNext, Limit}
use Rattle.stored_tables.specs.Opening.{IsOfTables}
use Rattle.register_core.specs.Opened.{IsUnopened}
use Rattle.command_words.specs.declared.asked.Store.{Store}
use Rattle.command_streams.specs.Streams.{EndsWith}
use Rattle.command_store.specs.Outside.{Outside, StoreFailed, IsUnused, NoCountFalls, NoCountRises}
use Rattle.command_store.specs.FaultWords.{IsSaid, fault_line}
use Rattle.command_store.specs.Opening.{found_tables, IsBadStore}
use Rattle.command_store.proofs.Refused.{not_used}
use Rattle.command_session.specs.Session.{IsSession}

-- for lack of memory
of_memory : (store : Store) (old new : Outside) (status : ℕ) → status ≡ 5 → new.streams.errors ≡ old.streams.errors → IsUnused old new → NoCountFalls old new
    → NoCountRises old new → IsSession store old new status
of_memory store old new status five silent unused later none = record {
  statuses = inr (inr (inr (inr five)));
  done = λ z. absurd (omega arith);
  refused = λ z. absurd (omega arith);
  fault = λ z. absurd (omega arith);
  store_fault = λ z. absurd (omega arith);
  memory = λ z. (silent, inl unused);
  later = later;
  quiet = λ z. (none.streams, inl none.stores);
}

-- since the store failed
of_keeper : (store : Store) (old new : Outside) (status : ℕ) → StoreFailed old new
    → EndsWith old.streams.errors new.streams.errors (fault_line Keeper) 4 status → IsUnused old new → NoCountFalls old new → IsSession store old new status
of_keeper store old new status failed (inl said) unused later = let four = said.0 in record {
  statuses = inr (inr (inr (inl four)));
  done = λ z. absurd (omega arith);
  refused = λ z. absurd (omega arith);
  fault = λ z. absurd (omega arith);
  store_fault = λ z. record { failed = failed; said = said.1; unused = unused };
  memory = λ z. absurd (omega arith);
  later = later;
  quiet = λ z. absurd (omega arith);
}
of_keeper store old new status failed (inr said) unused later = let three = said.0 in record {
  statuses = inr (inr (inl three));
  done = λ z. absurd (omega arith);
  refused = λ z. absurd (omega arith);
  fault = λ z. inr (inr (record { failed = said.1; fault = Keeper; cause = inr (refl, failed); front = said.2; unused = unused }));
  store_fault = λ z. absurd (omega arith);
  memory = λ z. absurd (omega arith);
  later = later;
  quiet = λ z. absurd (omega arith);
}

-- for what the store holds
of_bad : (store : Store) (old new : Outside) (status : ℕ) (fault : OpenFault) → IsBadStore store old fault
    → EndsWith old.streams.errors new.streams.errors (fault_line fault) 1 status ⊎ ((status ≡ 5) × (new.streams.errors ≡ old.streams.errors))
    → IsUnused old new → NoCountFalls old new → (status ≡ 5 → NoCountRises old new) → IsSession store old new status
of_bad store old new status fault bad (inl (inl said)) unused later none = let one = said.0 in record {
  statuses = inr (inl one);
  done = λ z. absurd (omega arith);
  refused = λ z. record { fault = fault; bad = bad; said = said.1; unused = unused };
  fault = λ z. absurd (omega arith);
  store_fault = λ z. absurd (omega arith);
  memory = λ z. absurd (omega arith);
  later = later;
  quiet = λ z. absurd (omega arith);
}
of_bad store old new status fault bad (inl (inr said)) unused later none = let three = said.0 in record {
  statuses = inr (inr (inl three));
  done = λ z. absurd (omega arith);
  refused = λ z. absurd (omega arith);
  fault = λ z. inr (inr (record { failed = said.1; fault = fault; cause = inl bad; front = said.2; unused = unused }));
  store_fault = λ z. absurd (omega arith);
  memory = λ z. absurd (omega arith);
  later = later;
  quiet = λ z. absurd (omega arith);
}
of_bad store old new status fault bad (inr said) unused later none = of_memory store old new status said.0 said.1 unused later (none said.0)

pub of_refused : (store : Store) (old new : Outside) (status : ℕ) (fault : OpenFault)
    → (IsOfTables fault → IsUnopened (found_tables store old) store.global_unique fault) → (fault ≡ Keeper → StoreFailed old new)
    → IsSaid fault old.streams.errors new.streams.errors status → IsUnused old new → NoCountFalls old new → (status ≡ 5 → NoCountRises old new)
    → IsSession store old new status
of_refused store old new status Keeper bad cause said unused later none = of_keeper store old new status (cause refl) said unused later
of_refused store old new status Memory bad cause said unused later none = of_memory store old new status said.0 said.1 unused later (none said.0)
of_refused store old new status (BadTables kind n rule) bad cause said unused later none =
    of_bad store old new status (BadTables kind n rule) (record { of_tables = tt; refused = bad tt }) said unused later none
of_refused store old new status (BadRow kind n) bad cause said unused later none =
    of_bad store old new status (BadRow kind n) (record { of_tables = tt; refused = bad tt }) said unused later none
of_refused store old new status (Version n) bad cause said unused later none =
    of_bad store old new status (Version n) (record { of_tables = tt; refused = bad tt }) said unused later none
of_refused store old new status (BadNext kind) bad cause said unused later none =
    of_bad store old new status (BadNext kind) (record { of_tables = tt; refused = bad tt }) said unused later none
of_refused store old new status (Limit which n) bad cause said unused later none =
    of_bad store old new status (Limit which n) (record { of_tables = tt; refused = bad tt }) said unused later none

-- where memory ran out before anything was used
pub not_begun : (store : Store) (old new : Outside) (status : ℕ) → status ≡ 5 → new ≡ old → IsSession store old new status
not_begun store old new status five same = subst (λ (t : Outside). IsSession store old t status) (sym same)
    (of_memory store old old status five refl (record { input = refl; output = refl; stored = not_used old.stores.stored })
    (record { streams = record { input = omega arith; output = omega arith; errors = omega arith }; stores = omega arith })
    (record { streams = record { input = refl; output = refl; errors = refl }; stores = refl }))
