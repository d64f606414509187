-- What a keeper of pools in memory holds, and what a call does to that.
use Rattle.std.specs.Prelude.{ℕ, ◌+◌, ◌==◌, Bool, List, nat_lt, if◌then◌else◌}
use Rattle.std.specs.List.{list_any}
use Rattle.pool_keeper.specs.declared.tables.PoolTables.{PoolTables}
use Rattle.ipam_keeper.specs.Keeping.{last_count}

-- the tables, the numbers of the calls that fail, how many calls there were, and how many of them failed
pub record Held : Type 0 where
  pub tables : PoolTables
  pub fails : List ℕ
  pub calls : ℕ
  pub faults : ℕ

-- the next call fails: its number, counted from 0, is in the list
abbrev pub is_failing : Held → Bool
is_failing held = list_any (λ n. n == held.calls) held.fails

-- one call more was counted, as far as the count goes, and one fault more if the call fails
abbrev pub counted : Held → Held
counted held = record {
  tables = held.tables;
  fails = held.fails;
  calls = if nat_lt held.calls last_count then held.calls + 1 else held.calls;
  faults = if is_failing held then held.faults + 1 else held.faults;
}

-- with these tables
abbrev pub holding : Held → PoolTables → Held
holding held tables = record { tables = tables; fails = held.fails; calls = held.calls; faults = held.faults }
