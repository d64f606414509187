-- Tables of a keeper that were migrated, and what the opener knows once that keeper is back.
use Rattle.std.proofs.Common.{◌≡◌, ℕ, ◌≤◌, Bool, List, [], ◌∷◌, Option, Some, None, option_map, Result, Ok, Err, IfErr, map, refl, ap, sym, subst, ◌∙◌}
use Rattle.stored_tables.specs.declared.tables.Tables.{Tables}
use Rattle.stored_tables.specs.Migration.{migrated, unmigrated, range_count}
use Rattle.ipam_keeper.specs.Keeping.{IsRaised, IsTold, replaced_by, started, IsReturned}
use Rattle.command_store.specs.Outside.{Stores, AreSame}
use Rattle.command_store.proofs.Refused.{back_after, raised_rose}
use Rattle.command_migrate.specs.declared.migrate.MigrateStop.{MigrateStop}
use Rattle.command_migrate.specs.declared.migrate.MigrateStop.TheVariants.{Unread, Refused, Unwritten, Lacking}
use Rattle.command_migrate.specs.Migrate.{AreFit, AreUnfit, AreMigrated, IsStop, IsMigrated, tables_of_file}

-- ---- a keeper

-- told tables that were replaced are the migrated ones
told_anew : (populated : Bool) (told : Option Tables) (tables : Tables) → IsTold told tables
    → option_map (replaced_by (migrated populated tables)) told ≡ option_map (migrated populated) told
told_anew populated None tables is = refl
told_anew populated (Some kept) tables is = ap (λ (t : Tables). Some (migrated populated t)) (sym is)

pub migrated_in : (populated : Bool) (old mid new : Option Tables) (tables anew : Tables) (count : ℕ) → IsTold old tables → unmigrated tables ≡ None
    → anew ≡ migrated populated tables → mid ≡ old → new ≡ option_map (replaced_by anew) mid → count ≡ range_count tables → AreMigrated populated old new count
migrated_in populated old mid new tables anew count found fit is same holds count_is = record {
  of = record { tables = tables; found = found; fit = fit };
  count_is = count_is;
  holds = holds ∙ ap (λ (t : Tables). option_map (replaced_by t) mid) is ∙ ap (option_map (replaced_by (migrated populated tables))) same ∙ told_anew populated old tables found;
}

-- ---- the opener

-- the opener before, where the keeper was lent, and after
module _ (db : List ℕ) (populated : Bool) (old new : Stores) (lent : Option (Option (List ℕ))) (mid : Stores) (first last : Option Tables)
    (out : lent ≡ Some (Some db)) (stays : mid.stored ≡ old.stored) (starts : first ≡ started old.stored (Some db)) where
  pub migrated_back : (count : ℕ) → AreMigrated populated first last count → IsReturned lent last mid.stored new.stored → IsMigrated db populated old new count
  migrated_back count done returned =
      let here : IsReturned (Some (Some db)) last mid.stored new.stored = subst (λ (l : Option (Option (List ℕ))). IsReturned l last mid.stored new.stored) out returned in (
        last,
        subst (λ (t : Option Tables). AreMigrated populated t last count) starts done,
        subst (λ (s : Option (List (List ℕ × Tables))). IsReturned (Some (Some db)) last s new.stored) stays here,
      )

  pub stopped_back : (stop : MigrateStop) (few more : ℕ) → IsStop first few more stop → old.faults ≤ mid.faults → IsRaised mid.faults more new.faults
      → IsStop (tables_of_file db old) old.faults new.faults stop
  stopped_back Unread few more failed later raised = raised_rose old.faults mid.faults few more new.faults later failed raised
  stopped_back (Refused fault) few more unfit later raised = subst (λ (t : Option Tables). AreUnfit t fault) starts unfit
  stopped_back Unwritten few more stop later raised =
      (subst AreFit starts stop.0, raised_rose old.faults mid.faults few more new.faults later stop.1 raised)
  stopped_back Lacking few more stop later raised = tt

-- a keeper whose tables were not migrated leaves all as it was
pub same_back : (result : Result ℕ MigrateStop) (path : Option (List ℕ)) (lent : Option (Option (List ℕ))) (told last : Option Tables)
    (old mid new : Option (List (List ℕ × Tables))) → lent ≡ Some path → mid ≡ old → told ≡ started old path → IfErr result (λ stop. last ≡ told)
    → IsReturned lent last mid new → IfErr result (λ stop. AreSame old new)
same_back (Ok count) path lent told last old mid new out stays starts same returned = tt
same_back (Err stop) path lent told last old mid new out stays starts same returned = back_after path lent told last old mid new out stays same starts returned
