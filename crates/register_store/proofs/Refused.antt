-- What a store holds behind a keeper that went back, since the opening was refused.
use Rattle.std.proofs.Common.{◌≡◌, ℕ, ◌≤◌, ◌⊎◌, List, Option, Some, subst, ap, ◌∙◌}
use Rattle.command_words.specs.declared.asked.Store.{Store}
use Rattle.command_store.proofs.Refused.{back_after, raised_rose}
use Rattle.ipam_keeper.specs.Keeping.{IsRaised, IsReturned, Rose, started}
use Rattle.register_core.specs.Opened.{IsUnopened}
use Rattle.register_store.specs.Opening.{IsRefusedOpening}
use Rattle.stored_tables.specs.declared.opening.OpenFault.{OpenFault}
use Rattle.stored_tables.specs.declared.opening.OpenFault.TheVariants.{Keeper}
use Rattle.stored_tables.specs.declared.tables.Tables.{Tables}
use Rattle.stored_tables.specs.Opening.{IsOfTables}

-- an opening that was refused behind its keeper's start, whose keeper went back
pub refused_so : (store : Store) (path : Option (List ℕ)) (lent : Option (Option (List ℕ))) (told last : Option Tables) (old mid new : Option (List (List ℕ × Tables))) (fault : OpenFault) (faults_old faults_mid few more faults_new : ℕ)
    → path ≡ store.db → lent ≡ Some path → mid ≡ old → last ≡ told → told ≡ started old path → IsReturned lent last mid new
    → (IsOfTables fault → IsUnopened told store.global_unique fault) → faults_old ≤ faults_mid → (fault ≡ Keeper → Rose few more) → IsRaised faults_mid more faults_new
    → (fault ≡ Keeper) ⊎ (faults_new ≡ faults_old)
    → IsRefusedOpening store (record { stored = old; faults = faults_old }) (record { stored = new; faults = faults_new }) fault
refused_so store path lent told last old mid new fault faults_old faults_mid few more faults_new named out stays same is returned cause later rose raised calm =
    let here : told ≡ started old store.db = is ∙ ap (λ (p : Option (List ℕ)). started old p) named in
    record {
      cause = λ of_tables. subst (λ (t : Option Tables). IsUnopened t store.global_unique fault) here (cause of_tables);
      failed = λ keeper. raised_rose faults_old faults_mid few more faults_new later (rose keeper) raised;
      still = calm;
      same = back_after store.db lent told last old mid new (out ∙ ap (λ (p : Option (List ℕ)). Some p) named) stays same here returned;
    }
