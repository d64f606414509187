-- What is known and counted of a keeper of pools that is either one over a file or one in memory.
use Rattle.std.specs.Prelude.{ℕ, Option, Some}
use Rattle.pool_keeper.specs.declared.tables.PoolTables.{PoolTables}
use Rattle.pool_keeper.specs.Memory.{Held}
use Rattle.sqlite_pools.specs.declared.opener.StorePools.{StorePools}
use Rattle.sqlite_pools.specs.declared.opener.StorePools.TheVariants.{File, Memory}

-- its known tables, by the known ones of a keeper over a file
abbrev pub told_of : {F : Type 0} → (F → Option PoolTables) → StorePools F → Option PoolTables
told_of told (File kept) = told kept
told_of told (Memory held) = Some held.tables

-- its count of faults, by that of a keeper over a file
abbrev pub faults_of : {F : Type 0} → (F → ℕ) → StorePools F → ℕ
faults_of faults (File kept) = faults kept
faults_of faults (Memory held) = held.faults
