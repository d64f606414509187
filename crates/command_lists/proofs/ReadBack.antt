-- A table that was read out of a store, or not, once the keeper is back; and the fewest blocks of what was read.
use Rattle.std.proofs.Common.{◌≡◌, ℕ, ◌≤◌, sym, subst, true, List, Result, Ok, Err, IfOk, IfErr, OnOk}
use Rattle.inet_num.specs.Net.{Cidr}
use Rattle.ipam_data.specs.State.{State}
use Rattle.stored_tables.specs.Opening.{IsOfTables}
use Rattle.ipam_keeper.specs.Keeping.{IsRaised}
use Rattle.prefix_list.specs.Lists.{AreOf}
use Rattle.command_words.specs.declared.asked.ListAsked.{ListAsked}
use Rattle.command_store.specs.Outside.{Stores}
use Rattle.command_store.proofs.Refused.{raised_rose}
use Rattle.command_lists.specs.declared.table.TableStop.{TableStop}
use Rattle.command_lists.specs.declared.table.TableStop.TheVariants.{Opening, Absent, Memory}
use Rattle.command_lists.specs.Tables.{is_there, table_named, table_blocks}
use Rattle.command_lists.specs.Reading.{IsFound, IsRead, IsTableStop, IsStopped}
use Rattle.command_lists.proofs.Listed.{listed_are_of}

module _ (asked : ListAsked) (old new : Stores) (state : State) (found : IsFound asked.store old state) where
  pub read_back : {T : Type 0} (items : T → List Cidr) (r : Result T TableStop) → OnOk r (is_there state asked.table ≡ true)
      → IfOk r (λ v. items v ≡ table_blocks state asked.table asked.family asked.counted) → IfOk r (λ v. IsRead asked old (items v))
  read_back items (Ok v) there blocks = record { state = state; found = found; there = there; blocks_are = blocks }
  read_back items (Err stop) there blocks = tt

  stop_is : (mid few more : ℕ) (stop : TableStop) → old.faults ≤ mid → IsRaised mid more new.faults → IsTableStop state asked.table few more stop → IsStopped asked old new stop
  stop_is mid few more (Opening fault) later raised (keeper, rose) = record {
    tables = λ t. absurd (subst IsOfTables keeper t);
    failed = λ k. raised_rose old.faults mid few more new.faults later rose raised;
  }
  stop_is mid few more (Absent n) later raised absent = (state, found, absent)
  stop_is mid few more Memory later raised h = tt

  pub stopped_back : {T : Type 0} (mid few more : ℕ) (r : Result T TableStop) → old.faults ≤ mid → IsRaised mid more new.faults
      → IfErr r (IsTableStop state asked.table few more) → IfErr r (IsStopped asked old new)
  stopped_back mid few more (Ok v) later raised h = tt
  stopped_back mid few more (Err stop) later raised h = stop_is mid few more stop later raised h

-- the blocks are of the family
pub read_are_of : {T : Type 0} (asked : ListAsked) (state : State) (items : T → List Cidr) (r : Result T TableStop)
    → IfOk r (λ v. items v ≡ table_blocks state asked.table asked.family asked.counted) → IfOk r (λ v. AreOf asked.family (items v))
read_are_of asked state items (Ok v) is = subst (AreOf asked.family) (sym is) (listed_are_of (table_named asked.table) asked.family asked.counted state.prefixes.rows)
read_are_of asked state items (Err stop) is = tt
