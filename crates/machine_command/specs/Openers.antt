-- What an opener of machines promises, as one value.
use Rattle.std.specs.Prelude.{ℕ}
use Rattle.command_streams.specs.Streams.{Told}
use Rattle.machine_command.specs.Outside.{Stored, Stores}

-- Q is what a command asks for, T the tables of a store, S a state of the machine, F why an opening is refused
pub record OpenerMeaning (Q T S F : Type 0) : Type 1 where
  -- the state is one that the tables represent that were asked for
  pub loads : Q → Stored T → S → Type 0
  -- first the one was stored, and then the other, which holds this state if it was asked for
  pub holds : Q → Stored T → Stored T → S → Type 0
  -- an opening is refused for this ..
  pub refuses : Q → Stores T → Stores T → F → Type 0
  -- .. which is said so, and gives the command this status
  pub says : F → Told → Told → ℕ → Type 0

-- these members as one value
abbrev pub opener_meaning : {Q T S F : Type 0} → (Q → Stored T → S → Type 0) → (Q → Stored T → Stored T → S → Type 0) → (Q → Stores T → Stores T → F → Type 0) → (F → Told → Told → ℕ → Type 0)
    → OpenerMeaning Q T S F
opener_meaning loads holds refuses says = record { loads = loads; holds = holds; refuses = refuses; says = says }
