-- What a read and a write of a line of two lent objects leave.
use Rattle.std.specs.Prelude.{◌≡◌, ℕ, List, Option}
use Rattle.ipam_edge.specs.declared.line.Both.{Both}
use Rattle.ipam_edge.specs.Reading.{Step}

-- the source was read, and all else of the two stays
pub record IsBothRead {R W : Type 0} (step : Step R) (old : Both R W) (given : Option (List ℕ)) (new : Both R W) : Type 0 where
  pub read : step old.source.now given new.source.now
  pub sink : new.sink.now ≡ old.sink.now
  pub source_lent : new.source.ghost_name ≡ old.source.ghost_name
  pub sink_lent : new.sink.ghost_name ≡ old.sink.ghost_name

-- the sink was written to, and all else of the two stays
pub record IsBothWrite {R W : Type 0} (step : Step W) (old : Both R W) (taken : Option (List ℕ)) (new : Both R W) : Type 0 where
  pub write : step old.sink.now taken new.sink.now
  pub source : new.source.now ≡ old.source.now
  pub source_lent : new.source.ghost_name ≡ old.source.ghost_name
  pub sink_lent : new.sink.ghost_name ≡ old.sink.ghost_name
