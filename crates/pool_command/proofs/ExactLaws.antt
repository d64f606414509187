-- Where nothing fails, a fault of told tables gives status 1: with status 0 they were loaded, and had none.
use Rattle.std.proofs.Common.{◌≡◌, ℕ, ◌⊎◌, inl, inr, List, Option, Some, None, sym, ◌∙◌, ap, subst}
use Rattle.machine_serving.specs.Views.{ListenerView}
use Rattle.number_pools.specs.Rows.{Pools}
use Rattle.pool_keeper.specs.declared.tables.PoolTables.{PoolTables}
use Rattle.pool_keeper.specs.Keeping.{started}
use Rattle.pool_opening.specs.Faults.{fault_of}
use Rattle.pool_register.specs.Kept.{Seen}
use Rattle.pool_register.specs.Opened.{IsOpened}
use Rattle.pool_store.specs.Opening.{IsLoaded}
use Rattle.pool_words.specs.Asked.{Asks}
use Rattle.pool_words.specs.declared.asked.Command.{Command}
use Rattle.pool_words.specs.declared.asked.Command.TheVariants.{Session, Serve, Print, About}
use Rattle.pool_words.specs.declared.asked.Serving.{Serving}
use Rattle.pool_words.specs.declared.asked.Listing.{Listing}
use Rattle.pool_words.proofs.Unique.{words_ask_for_one}
use Rattle.pool_command.specs.Clauses.{Counts, IsDone, Opens}
use Rattle.pool_command.specs.Exact.{HasBadTables, RunsAreExact}
use Rattle.pool_command.specs.Runs.{PoolOutside}
use Rattle.pool_command.proofs.RunLaws.{runs_have_clauses}

-- tables that were loaded have no fault
not_opened : (path : Option (List ℕ)) (old : PoolOutside) (s : Pools) → HasBadTables path old → IsOpened (started old.stores.stored path) s → ⊥
not_opened path old s bad loaded =
    let opened : IsOpened (Some bad.tables) s = subst (λ (t : Option PoolTables). IsOpened t s) bad.told loaded in
    let none : fault_of bad.tables ≡ None = ap fault_of opened.held ∙ opened.faultless in
    let some = bad.bad in
    cc (sym none ∙ some)

not_loaded : (path : Option (List ℕ)) (old : PoolOutside) (s : Seen) → HasBadTables path old → IsLoaded path old.stores.stored s → ⊥
not_loaded path old s bad loaded = not_opened path old s.pools bad loaded.pools

one_path : (a b : Option (List ℕ)) → Session a ≡ Session b → a ≡ b
one_path a b same = cc

one_store : (s t : Serving) → Serve s ≡ Serve t → s ≡ t
one_store s t same = cc

one_file : (s t : Listing) (a b : Option (List ℕ)) → Print s a ≡ Print t b → a ≡ b
one_file s t a b same = cc

not_done : (words : List (List ℕ)) (old new : PoolOutside) (before after : ListenerView) (path : Option (List ℕ)) → Opens words path → HasBadTables path old → IsDone words old new before after → ⊥
not_done words old new before after path (inl asks) bad (inl d) =
    (let one = one_path d.0 path (words_ask_for_one words (Session d.0) (Session path) d.1 asks) in
    not_loaded path old d.2.first.opening bad (subst (λ (p : Option (List ℕ)). IsLoaded p old.stores.stored d.2.first.opening) one d.2.loaded))
not_done words old new before after path (inl asks) bad (inr (inl d)) = (let wrong : Serve d.0 ≡ Session path = words_ask_for_one words (Serve d.0) (Session path) d.1 asks in cc)
not_done words old new before after path (inl asks) bad (inr (inr (inl d))) = (let wrong : About d.0 ≡ Session path = words_ask_for_one words (About d.0) (Session path) d.1 asks in cc)
not_done words old new before after path (inl asks) bad (inr (inr (inr d))) =
    (let wrong : Print d.0 d.1 ≡ Session path = words_ask_for_one words (Print d.0 d.1) (Session path) d.2 asks in cc)
not_done words old new before after path (inr (inl o)) bad (inl d) = (let wrong : Session d.0 ≡ Serve o.0 = words_ask_for_one words (Session d.0) (Serve o.0) d.1 o.1 in cc)
not_done words old new before after path (inr (inl o)) bad (inr (inl d)) =
    (let one = one_store d.0 o.0 (words_ask_for_one words (Serve d.0) (Serve o.0) d.1 o.1) in
    let c : Counts o.0 old new before after = subst (λ (s : Serving). Counts s old new before after) one d.2 in
    not_loaded path old c.serves.opening bad (subst (λ (p : Option (List ℕ)). IsLoaded p old.stores.stored c.serves.opening) o.2 c.serves.loaded))
not_done words old new before after path (inr (inl o)) bad (inr (inr (inl d))) = (let wrong : About d.0 ≡ Serve o.0 = words_ask_for_one words (About d.0) (Serve o.0) d.1 o.1 in cc)
not_done words old new before after path (inr (inl o)) bad (inr (inr (inr d))) =
    (let wrong : Print d.0 d.1 ≡ Serve o.0 = words_ask_for_one words (Print d.0 d.1) (Serve o.0) d.2 o.1 in cc)
not_done words old new before after path (inr (inr o)) bad (inl d) = (let wrong : Session d.0 ≡ Print o.0 path = words_ask_for_one words (Session d.0) (Print o.0 path) d.1 o.1 in cc)
not_done words old new before after path (inr (inr o)) bad (inr (inl d)) = (let wrong : Serve d.0 ≡ Print o.0 path = words_ask_for_one words (Serve d.0) (Print o.0 path) d.1 o.1 in cc)
not_done words old new before after path (inr (inr o)) bad (inr (inr (inl d))) =
    (let wrong : About d.0 ≡ Print o.0 path = words_ask_for_one words (About d.0) (Print o.0 path) d.1 o.1 in cc)
not_done words old new before after path (inr (inr o)) bad (inr (inr (inr d))) =
    (let one = one_file d.0 o.0 d.1 path (words_ask_for_one words (Print d.0 d.1) (Print o.0 path) d.2 o.1) in
    not_opened path old d.3.pools bad (subst (λ (p : Option (List ℕ)). IsOpened (started old.stores.stored p) d.3.pools) one d.3.loaded))

-- the command that opens the pools of this path
opener_of : (words : List (List ℕ)) (path : Option (List ℕ)) → Opens words path → (command : Command) × Asks words command
opener_of words path (inl asks) = (Session path, asks)
opener_of words path (inr (inl o)) = (Serve o.0, o.1)
opener_of words path (inr (inr o)) = (Print o.0 path, o.1)

pub runs_are_exact : RunsAreExact
runs_are_exact = λ words old new before after status runs well heard path opens bad.
    let c = runs_have_clauses words old new before after status runs in
    let o = opener_of words path opens in
    elim (c.complete o.0 o.1 well (heard o.0 o.1)) [
      | inl zero_ ↦ absurd (not_done words old new before after path opens bad (c.done zero_).0)
      | inr more ↦ more
    ]
