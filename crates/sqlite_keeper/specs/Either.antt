-- What is known and counted of a keeper that is either one over a file or one in memory.
use Rattle.std.specs.Prelude.{ℕ, Option, Some}
use Rattle.stored_tables.specs.declared.tables.Tables.{Tables}
use Rattle.sqlite_keeper.specs.declared.opener.StoreKeeper.{StoreKeeper}
use Rattle.sqlite_keeper.specs.declared.opener.StoreKeeper.TheVariants.{File, Memory}

-- its known tables, by the known ones of a keeper over a file
abbrev pub told_of : {F : Type 0} → (F → Option Tables) → StoreKeeper F → Option Tables
told_of told (File kept) = told kept
told_of told (Memory tables) = Some tables

-- its count of faults, by that of a keeper over a file; one in memory never fails
abbrev pub faults_of : {F : Type 0} → (F → ℕ) → StoreKeeper F → ℕ
faults_of faults (File kept) = faults kept
faults_of faults (Memory tables) = 0
