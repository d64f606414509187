-- What a store holds behind a keeper that went back.
use Rattle.std.proofs.Common.{◌≡◌, ℕ, ◌≤◌, ◌⊎◌, List, inl, inr, Option, Some, None, is_some, Bool, true, false, bytes_eq, refl, ap, subst, sym, ◌∙◌, arith}
use Rattle.std.proofs.lemmas.Slice.Eq.{bytes_eq-Decides}
use Rattle.ipam_keeper.specs.Keeping.{Rose, IsRaised}
use Rattle.machine_command.specs.Outside.{Stores}
use Rattle.pool_keeper.specs.declared.tables.PoolTables.{PoolTables}
use Rattle.pool_keeper.specs.Keeping.{AreGiven, IsReturned, started, tables_at}
use Rattle.pool_keeper.specs.Stored.{Tells, tables_of}
use Rattle.pool_opening.specs.declared.faults.PoolFault.{PoolFault}
use Rattle.pool_opening.specs.declared.faults.PoolFault.TheVariants.{Keeper, Memory}
use Rattle.pool_register.specs.Kept.{Seen}
use Rattle.pool_register.specs.Opened.{IsUnopened}
use Rattle.pool_store.specs.Opening.{AreSame, Holds, IsLoaded, IsRefusedOpening, StoredPools}

not_used : (stored : StoredPools) → AreSame stored stored
not_used None = tt
not_used (Some entries) = λ path. refl

pub unchanged : (old new : StoredPools) → new ≡ old → AreSame old new
unchanged old new same = subst (AreSame old) (sym same) (not_used old)

-- what stands under a path, by whether it is the keeper's
beside : (path other : List ℕ) (entries new : List (List ℕ × PoolTables)) (b : Bool) → bytes_eq other path ≡ b
    → tables_at new path ≡ tables_at entries path → ((q : List ℕ) → ¬ (q ≡ path) → tables_at new q ≡ tables_at entries q)
    → tables_at new other ≡ tables_at entries other
beside path other entries new true is given stay =
    subst (λ (q : List ℕ). tables_at new q ≡ tables_at entries q) (sym ((bytes_eq-Decides other path).0 is)) given
beside path other entries new false is given stay = stay other (λ same. (let yes_ = (bytes_eq-Decides other path).1 same in cc))

-- a keeper that still has the tables with which it was started leaves all as it was
back_again : (path : Option (List ℕ)) (told : Option PoolTables) (old new : StoredPools) → told ≡ started old path → IsReturned (Some path) told old new → AreSame old new
back_again None told old new is returned = unchanged old new returned
back_again (Some path) told None new is returned = tt
back_again (Some path) told (Some entries) None is returned = absurd returned.1
back_again (Some path) told (Some entries) (Some new) is returned = λ other.
    beside path other entries new (bytes_eq other path) refl
    (subst (λ (t : Option PoolTables). AreGiven path t (Some new)) is returned.0) returned.1

-- pools that were loaded and went back as they were leave all as it was
pub left_same : (path : Option (List ℕ)) (old new : StoredPools) (s : Seen) → IsLoaded path old s → Holds path old new s → AreSame old new
left_same None old new s loaded holds = unchanged old new holds.returned
left_same (Some path) None new s loaded holds = tt
left_same (Some path) (Some entries) new s loaded holds =
    let are : tables_of s.pools ≡ loaded.pools.tables = ap tables_of loaded.pools.are in
    back_again (Some path) holds.told (Some entries) new (go holds.told (holds.tells ∙ loaded.tells) holds.are (are ∙ sym loaded.pools.held)) holds.returned
  where
    go : (told : Option PoolTables) → is_some told ≡ true → Tells told s.pools → tables_of s.pools ≡ tables_at entries path → told ≡ Some (tables_at entries path)
    go None yes_ are same = cc
    go (Some tables) yes_ are same = ap (λ (t : PoolTables). Some t) (are ∙ same)

-- the same, with what is known of the opener and of the keeper by then
back_after : (path : Option (List ℕ)) (lent : Option (Option (List ℕ))) (told last : Option PoolTables) (old mid new : StoredPools)
    → lent ≡ Some path → mid ≡ old → last ≡ told → told ≡ started old path → IsReturned lent last mid new → AreSame old new
back_after path lent told last old mid new out stays same is returned =
    let here = subst (λ (l : Option (Option (List ℕ))). IsReturned l last mid new) out returned in
    back_again path last old new (same ∙ is) (subst (λ (s : StoredPools). IsReturned (Some path) last s new) stays here)

-- where a keeper that went back had failed, the opener's count rose
raised_rose : (old mid few more new : ℕ) → old ≤ mid → Rose few more → IsRaised mid more new → Rose old new
raised_rose old mid few more new later (inl above) (inl is) = inl (omega arith)
raised_rose old mid few more new later (inr last) (inl is) = inr (omega arith)
raised_rose old mid few more new later rose (inr is) = inr (let e = is.1 in omega arith)

-- nothing is said of tables where the keeper failed or memory ran out
pub unopened_so : (told : Option PoolTables) (fault : PoolFault) → (fault ≡ Keeper) ⊎ (fault ≡ Memory) → IsUnopened told fault
unopened_so None fault is = tt
unopened_so (Some tables) fault (inl is) = subst (λ (f : PoolFault). IsUnopened (Some tables) f) (sym is) tt
unopened_so (Some tables) fault (inr is) = subst (λ (f : PoolFault). IsUnopened (Some tables) f) (sym is) tt

-- an opening that was refused behind its keeper's start, whose keeper went back
pub refused_so : (path : Option (List ℕ)) (lent : Option (Option (List ℕ))) (told last : Option PoolTables) (old mid new : StoredPools) (fault : PoolFault) (faults_old faults_mid few more faults_new : ℕ)
    → lent ≡ Some path → mid ≡ old → last ≡ told → told ≡ started old path → IsReturned lent last mid new → IsUnopened told fault → faults_old ≤ faults_mid → (fault ≡ Keeper → Rose few more)
    → IsRaised faults_mid more faults_new → IsRefusedOpening path (record { stored = old; faults = faults_old }) (record { stored = new; faults = faults_new }) fault
refused_so path lent told last old mid new fault faults_old faults_mid few more faults_new out stays same is returned cause later rose raised = record {
  cause = subst (λ (t : Option PoolTables). IsUnopened t fault) is cause;
  failed = λ keeper. raised_rose faults_old faults_mid few more faults_new later (rose keeper) raised;
  same = back_after path lent told last old mid new out stays same is returned;
}

-- the same of a path that is equal
pub refused_at : (path asked : Option (List ℕ)) (old new : Stores PoolTables) (fault : PoolFault) → path ≡ asked → IsRefusedOpening path old new fault → IsRefusedOpening asked old new fault
refused_at path asked old new fault same refused = subst (λ (p : Option (List ℕ)). IsRefusedOpening p old new fault) same refused
