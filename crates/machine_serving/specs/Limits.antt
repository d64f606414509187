-- The limits of serving, each with its number.
use Rattle.std.specs.Prelude.{◌≡◌}
use Rattle.machine_serving.specs.declared.patience.TheConstants.{PATIENCE}

-- the seconds for which a client may be silent at first, and for which a write waits for it
pub record HasServingLimits : Type 0 where
  pub patience : PATIENCE ≡ 30
