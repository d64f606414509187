-- The opener of a register, as the commands of any machine see it.
use Rattle.command_store.specs.FaultWords.{IsSaid}
use Rattle.command_words.specs.declared.asked.Store.{Store}
use Rattle.machine_command.specs.Openers.{OpenerMeaning}
use Rattle.register_core.specs.Machines.{Seen}
use Rattle.register_store.specs.Opening.{Holds, IsLoaded, IsRefusedOpening}
use Rattle.stored_tables.specs.declared.opening.OpenFault.{OpenFault}
use Rattle.stored_tables.specs.declared.tables.Tables.{Tables}

-- what a register is opened over and goes back to, by the words of the store, and what is said if it is not opened
abbrev pub register_opener : OpenerMeaning Store Tables Seen OpenFault
register_opener = record { loads = IsLoaded; holds = Holds; refuses = IsRefusedOpening; says = IsSaid }
