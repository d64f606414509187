-- What the opener knows once the keeper of an import is back.
use Rattle.std.proofs.Common.{◌≡◌, ℕ, ◌≤◌, List, Option, Some, IsSome, refl, subst, ◌∙◌}
use Rattle.ipam_data.specs.declared.imports.ImportRow.{ImportRow}
use Rattle.ipam_data.specs.declared.kinds.Kind.{Kind}
use Rattle.ipam_data.specs.Imports.{import_plan}
use Rattle.ipam_data.specs.State.{State}
use Rattle.ipam_data.specs.Updates.{updated}
use Rattle.stored_tables.specs.declared.tables.Tables.{Tables}
use Rattle.stored_tables.specs.Stored.{Tells}
use Rattle.ipam_keeper.specs.Keeping.{Rose, IsRaised, started, IsReturned}
use Rattle.command_words.specs.declared.asked.Store.{Store}
use Rattle.command_store.specs.Outside.{Stores}
use Rattle.command_store.proofs.Refused.{back_after, raised_rose}
use Rattle.command_files.specs.declared.calls.Counts.{Counts}
use Rattle.command_files.specs.declared.calls.MakeStop.{MakeStop}
use Rattle.command_files.specs.declared.calls.MakeStop.TheVariants.{Refused, Keeper, Memory}
use Rattle.command_files.specs.declared.import.ImportStop.TheVariants.{Making}
use Rattle.command_files.specs.Making.{IsCounted, IsMakeStop, IsFound, HasImported, IsStop, IsImportStop}

-- the opener before, where the keeper was lent, and after
module _ (kind : Kind) (store : Store) (rows : List ImportRow) (old new : Stores) (state : State)
    (lent : Option (Option (List ℕ))) (mid : Stores) (first told last : Option Tables)
    (found : IsFound store old state) (out : lent ≡ Some store.db) (stays : mid.stored ≡ old.stored)
    (starts : first ≡ started old.stored store.db) (same : last ≡ told) (returned : IsReturned lent last mid.stored new.stored) where
  pub imported_back : (counts : Counts) → IsCounted (import_plan state kind rows) counts → (IsSome first → IsSome told)
      → Tells told (updated state (import_plan state kind rows).update) → HasImported kind store rows old new counts
  imported_back counts counted telling tells =
      let here : IsReturned (Some store.db) last mid.stored new.stored = subst (λ (l : Option (Option (List ℕ))). IsReturned l last mid.stored new.stored) out returned in
      let there : IsReturned (Some store.db) last old.stored new.stored = subst (λ (s : Option (List (List ℕ × Tables))). IsReturned (Some store.db) last s new.stored) stays here in
      record {
        state = state;
        found = found;
        counted = counted;
        told = told;
        telling = subst (λ (t : Option Tables). IsSome t → IsSome told) starts telling;
        tells = tells;
        returned = subst (λ (t : Option Tables). IsReturned (Some store.db) t old.stored new.stored) same there;
      }

  pub stopped_back : (stop : MakeStop) (few more : ℕ) → told ≡ first → IsMakeStop (import_plan state kind rows) stop → (stop ≡ Keeper → Rose few more)
      → old.faults ≤ mid.faults → IsRaised mid.faults more new.faults → IsImportStop kind store rows old new (Making stop)
  stopped_back stop few more left is failed later raised = record {
    cause = cause stop is failed;
    same = back_after _ _ _ _ _ _ _ out stays (same ∙ left) starts returned;
  }
    where
      cause : (stop : MakeStop) → IsMakeStop (import_plan state kind rows) stop → (stop ≡ Keeper → Rose few more) → IsStop kind store rows old new (Making stop)
      cause (Refused refusal) is failed = (state, found, is)
      cause Keeper is failed = (state, found, is, raised_rose old.faults mid.faults few more new.faults later (failed refl) raised)
      cause Memory is failed = tt
