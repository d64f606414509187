-- The limits of the program, each with its number. The definitions of calls and words cite them by names, and most of the names represent
-- constants of the code; so a constant that is another number is refused here.
use Rattle.std.specs.Prelude.{◌≡◌}
use Rattle.number_pools.specs.Limits.{HasPoolLimits}
use Rattle.word_values.specs.Values.{most_connections, most_workers}
use Rattle.machine_serving.specs.Limits.{HasServingLimits}

-- what words have at most
pub record HasWordLimits : Type 0 where
  pub workers : most_workers ≡ 32
  pub connections : most_connections ≡ 1000000000

-- the limits of the program
pub record HasLimits : Type 0 where
  pub pools : HasPoolLimits
  pub words : HasWordLimits
  pub serving : HasServingLimits
