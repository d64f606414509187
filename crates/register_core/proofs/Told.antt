-- What a keeper tells after an update, by the names that a caller has.
use Rattle.std.proofs.Common.{◌≡◌, ◌↔◌, IsSome, Option, Some, None, option_map, sym, subst}
use Rattle.stored_tables.specs.declared.tables.Tables.{Tables}
use Rattle.stored_tables.specs.declared.tables.Change.{Change}
use Rattle.ipam_data.specs.declared.update.Update.{Update}
use Rattle.ipam_data.specs.State.{State}
use Rattle.ipam_data.specs.Updates.{updated}
use Rattle.ipam_data.specs.Updates.{CanUpdate}
use Rattle.stored_tables.specs.Stored.{changed, change_of, Tells}
use Rattle.ipam_data.specs.Lawful.{IsLawful}
use Rattle.stored_tables.proofs.StoredLaws.{told_after}

pub told_at : (old inner new : State) (u : Update) (change : Change) (told after : Option Tables) → inner ≡ old → IsLawful inner → CanUpdate old u → new ≡ updated old u
    → change ≡ change_of u → after ≡ option_map (changed change) told → Tells told old → Tells after new
told_at old inner new u change told after same h can n e a t =
    let lawful = subst IsLawful same h in
    let said : after ≡ option_map (changed (change_of u)) told = subst (λ (c : Change). after ≡ option_map (changed c) told) e a in
    subst (λ (s : State). Tells after s) (sym n) (subst (λ (o : Option Tables). Tells o (updated old u)) (sym said) (told_after old u told lawful can t))

-- a keeper that tells goes on telling, and one that does not does not begin
some_mapped : {A B : Type 0} (f : A → B) (told : Option A) → IsSome told ↔ IsSome (option_map f told)
some_mapped f None = search
some_mapped f (Some tables) = search

pub goes_on : (change : Tables → Tables) (told after : Option Tables) → after ≡ option_map change told → IsSome told ↔ IsSome after
goes_on change told after a = subst (λ (o : Option Tables). IsSome told ↔ IsSome o) (sym a) (some_mapped change told)
