-- What is said of the opener of a register, as what the register's commands say of the store.
use Rattle.std.proofs.Common.{◌≡◌, ◌⊎◌, ℕ, List, inl, inr, Bool, Option, Some, None, IsSome, is_some, refl, sym, ap, ◌∙◌, subst}
use Rattle.command_words.specs.declared.asked.Store.{Store}
use Rattle.command_store.specs.Outside.{AreSame, Outside}
use Rattle.command_store.specs.Opening.{HoldsTold, found_tables}
use Rattle.command_store.proofs.Refused.{back_again, unchanged}
use Rattle.history_lock.specs.Replay.{replay}
use Rattle.ipam_data.specs.declared.calls.Call.{Call}
use Rattle.ipam_data.specs.State.{State}
use Rattle.ipam_data.specs.Steps.{plain_step}
use Rattle.ipam_keeper.specs.Keeping.{started}
use Rattle.machine_command.specs.Outside as any
use Rattle.register_core.specs.Machines.{Seen, seen_step}
use Rattle.register_core.specs.Opened.{IsOpened}
use Rattle.register_core.proofs.MachineFits.{seen_replay}
use Rattle.register_store.specs.Opening.{Holds, IsLoaded}
use Rattle.stored_tables.specs.declared.tables.Tables.{Tables}
use Rattle.stored_tables.specs.Stored.{Tells}

-- a keeper that goes on as before tells where it did
pub still_tells : (start told : Option Tables) → is_some told ≡ is_some start → IsSome start → IsSome told
still_tells None None still some = some
still_tells (Some first) None still some = absurd (cc still)
still_tells None (Some tables) still some = absurd (cc still)
still_tells (Some first) (Some tables) still some = some

-- what the store holds of the state behind these changes is what it holds of the plain register's
pub holds_here : (store : Store) (old new : Outside) (first last : Seen) (log : List (ℕ × Call)) → last ≡ first → first.tells ≡ is_some (found_tables store old)
    → Holds store old.stores.stored new.stores.stored (replay seen_step last log) → HoldsTold store old new (replay plain_step first.state log)
holds_here store old new first last log on starts holds =
    let at : replay seen_step last log ≡ record { state = replay plain_step first.state log; tells = first.tells } =
    ap (λ (s : Seen). replay seen_step s log) on ∙ seen_replay first.state first.tells log in (
      holds.told,
      still_tells (found_tables store old) holds.told (holds.tells ∙ (ap (λ (s : Seen). s.tells) at ∙ starts)),
      subst (λ (s : Seen). Tells holds.told s.state) at holds.are,
      holds.returned,
    )

-- a keeper that goes on as before, and tells the tables of the state that was opened, tells what it told
told_before : (start told : Option Tables) (unique : Bool) (state : State) → IsOpened start unique state → Tells told state → is_some told ≡ is_some start → told ≡ start
told_before None None unique state o t still = refl
told_before (Some first) None unique state o t still = absurd (cc still)
told_before None (Some tables) unique state o t still = absurd (cc still)
told_before (Some first) (Some tables) unique state o t still = ap Some (sym (o.1 ∙ (sym o.2.tables_are ∙ sym t)))

-- a store that was left tells what it told
pub left_same : (store : Store) (old new : any.Stored Tables) → (new ≡ old) ⊎ ((state : Seen) × IsLoaded store old state × Holds store old new state) → AreSame old new
left_same store old new (inl same) = unchanged old new same
left_same store old new (inr (state, loaded, holds)) =
    back_again store.db holds.told old new (told_before (started old store.db) holds.told store.global_unique state.state loaded.opened holds.are (holds.tells ∙ loaded.tells)) holds.returned
