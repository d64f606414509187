-- What was loaded is what the keeper tells.
use Rattle.std.proofs.Common.{◌≡◌, Option, Some, None, ap, sym, ◌∙◌, subst}
use Rattle.number_pools.specs.Lawful.{IsLawfulPools}
use Rattle.number_pools.specs.Rows.{Pools}
use Rattle.pool_keeper.specs.declared.tables.PoolTables.{PoolTables}
use Rattle.pool_keeper.specs.Keeping.{IsTold}
use Rattle.pool_keeper.specs.Stored.{Tells, tables_of}
use Rattle.pool_opening.specs.declared.faults.PoolFault.{PoolFault}
use Rattle.pool_opening.specs.Faults.{IsRefused, fault_of, loaded}
use Rattle.pool_register.specs.Opened.{IsOpened, IsUnopened}

pub opened_is : (told : Option PoolTables) (tables : PoolTables) (s : Pools) → IsTold told tables → fault_of tables ≡ None → s ≡ loaded tables → IsLawfulPools s → IsOpened told s
opened_is told tables s t f e l = record { tables = tables; held = t; faultless = f; are = e; lawful = l }

pub tells_loaded : (told new : Option PoolTables) (tables : PoolTables) (s : Pools) → IsTold told tables → new ≡ told → s ≡ loaded tables → Tells new s
tells_loaded told new tables s t n e = subst (λ (o : Option PoolTables). Tells o s) (sym n) (go told t)
  where
    go : (o : Option PoolTables) → IsTold o tables → Tells o s
    go None h = tt
    go (Some known) h = h ∙ sym (ap tables_of e)

pub unopened_is : (told : Option PoolTables) (tables : PoolTables) (fault : PoolFault) → IsTold told tables → IsRefused tables fault → IsUnopened told fault
unopened_is None tables fault t r = tt
unopened_is (Some known) tables fault t r = subst (λ (x : PoolTables). IsRefused x fault) (sym t) r
