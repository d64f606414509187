-- What a run of a command that prints a text of pools promises: of the pools of a store that stays as it is.
use Rattle.std.specs.Prelude.{◌≡◌, ◌⊎◌, ℕ, List, Option}
use Rattle.command_streams.specs.Streams.{EndsWith, NeverRises}
use Rattle.machine_command.specs.Outside.{NoCountFalls, Outside}
use Rattle.machine_command.specs.Session.{IsRefused}
use Rattle.number_pools.specs.declared.rows.PoolKind.TheVariants.{Asn, Vlan}
use Rattle.number_pools.specs.Rows.{Pools}
use Rattle.pool_csv.specs.Exports.{members_text, ranges_text}
use Rattle.pool_keeper.specs.declared.tables.PoolTables.{PoolTables}
use Rattle.pool_keeper.specs.Keeping.{started}
use Rattle.pool_register.specs.Opened.{IsOpened}
use Rattle.pool_report.specs.Report.{IsReport}
use Rattle.pool_store.specs.Meaning.{pool_opener}
use Rattle.pool_store.specs.Opening.{AreSame}
use Rattle.pool_words.specs.declared.asked.Listing.{Listing}
use Rattle.pool_words.specs.declared.asked.Listing.TheVariants.{Rows, Report}
use Rattle.pool_words.specs.declared.asked.Sheet.{Sheet}
use Rattle.pool_words.specs.declared.asked.Sheet.TheVariants.{AsnRanges, VlanGroups, Asns, Vlans}

-- the text of a file of these pools
abbrev pub sheet_text : Sheet → Pools → List ℕ
sheet_text AsnRanges s = ranges_text Asn s.ranges.rows
sheet_text VlanGroups s = ranges_text Vlan s.ranges.rows
sheet_text Asns s = members_text Asn s
sheet_text Vlans s = members_text Vlan s

-- the text that is asked for of these pools
abbrev pub IsListing : Listing → Pools → List ℕ → Type 0
IsListing (Rows sheet) s text = text ≡ sheet_text sheet s
IsListing Report s text = IsReport s text

-- the text is on the output, as far as that could be; or memory ran out before, and nothing is on it
abbrev pub IsPut : Listing → Pools → Outside PoolTables → Outside PoolTables → ℕ → Type 0
IsPut listing pools old new status =
    ((text : List ℕ) × IsListing listing pools text × EndsWith old.streams.output new.streams.output text 0 status)
    ⊎ ((status ≡ 5) × (new.streams.output ≡ old.streams.output))

-- pools were loaded, and their text was put on the output
pub record Prints (listing : Listing) (path : Option (List ℕ)) (old new : Outside PoolTables) (status : ℕ) : Type 0 where
  pub pools : Pools
  pub loaded : IsOpened (started old.stores.stored path) pools
  pub put : IsPut listing pools old new status
  pub input : new.streams.input ≡ old.streams.input
  pub errors : new.streams.errors ≡ old.streams.errors
  -- known tables are unchanged, and the store did not fail
  pub same : AreSame old.stores.stored new.stores.stored
  pub still : new.stores.faults ≡ old.stores.faults

-- a run of `export` or `report`
pub record IsPrint (listing : Listing) (path : Option (List ℕ)) (old new : Outside PoolTables) (status : ℕ) : Type 0 where
  pub run : Prints listing path old new status ⊎ IsRefused pool_opener path old new status
  -- no count of faults falls
  pub later : NoCountFalls old new
  -- 5: none rose
  pub quiet : status ≡ 5 → NeverRises old.streams new.streams × (new.stores.faults ≡ old.stores.faults)
