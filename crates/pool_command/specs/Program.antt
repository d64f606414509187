-- What the process ends with: the status of one run over the standard streams.
use Rattle.std.specs.Prelude.{ℕ, List, Result}
use Rattle.std.specs.declared.io.Error.{Error}
use Rattle.std.specs.declared.string.String.{String}
use Rattle.std.specs.declared.vec.IntoIter.{IntoIter}
use Rattle.command_streams.specs.Streams.{Streams}
use Rattle.machine_command.specs.Outside.{Stores, outside}
use Rattle.pool_keeper.specs.declared.tables.PoolTables.{PoolTables}
use Rattle.machine_serving.specs.Views.{ListenerView}
use Rattle.program_entry.specs.Ending as any
use Rattle.pool_command.specs.Runs.{IsUsage, Runs}

-- a run, by the streams and what else is used, which is the stores of an opener, and a listener
abbrev pub RunsUsing : List (List ℕ) → Streams → Streams → Stores PoolTables × ListenerView → Stores PoolTables × ListenerView → ℕ → Type 0
RunsUsing words old new before after status = Runs words (outside old before.0) (outside new after.0) before.1 after.1 status

-- what a process ends with that was given these arguments: the status of a run of their words, all but the program's name; or that of the usage
-- line, if one of them is no text; or that of out of memory, if the system had none to give them
abbrev pub IsEnding : {Y Z : Type 0} → Result (IntoIter (String Y) Z) Error → Stores PoolTables → Stores PoolTables → ListenerView → ListenerView → ℕ → Type 0
IsEnding given stores_before stores_after before after status = any.IsEnding RunsUsing IsUsage given (stores_before, before) (stores_after, after) status
