-- What a run of the command `load` promises of each status. What is printed is a function of the number of claims alone, whatever the number of
-- workers.
use Rattle.std.specs.Prelude.{◌≡◌, ℕ, ◌≤◌, ◌⊎◌}
use Rattle.command_streams.specs.Streams.{Told, Gains, GainsFront, Failed}
use Rattle.command_load.specs.LoadText.{load_text}

-- a run of so many claims by so many workers; `old` and `new` are what is known of the output
pub record IsLoad (count workers : ℕ) (old new : Told) (status : ℕ) : Type 0 where
  -- the status is one of these
  pub statuses : (status ≡ 0) ⊎ (status ≡ 3) ⊎ (status ≡ 5)
  -- 0: the five lines are on the output
  pub done : status ≡ 0 → Gains old new (load_text count)
  -- 3: the output failed, with a prefix of them
  pub fault : status ≡ 3 → Failed old new × GainsFront old new (load_text count)
  -- 5: nothing was printed
  pub memory : status ≡ 5 → new ≡ old
  -- the count of faults does not fall
  pub later : old.faults ≤ new.faults
