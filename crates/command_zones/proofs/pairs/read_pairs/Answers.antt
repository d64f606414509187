use Rattle.command_streams.specs.Streams.{told}
use Rattle.command_zones.proofs.PairRuns.{pairs_given}
use Rattle.command_zones.proofs.pairs.read_pairs.Goals as goal

pub returns-in-Ok-read_ptrs-clause-pairs : goal.returns-in-Ok-read_ptrs-clause-pairs
returns-in-Ok-read_ptrs-clause-pairs g c =
    pairs_given _ _ c.as_slice.ensures.value (told g.So.Source.left g.So.Source.faults c.args.input.now)
    (told g.So.Source.left g.So.Source.faults c.read_whole.new.input)
    c.in-Ok-read_ptrs.pairs.items c.in-Ok.ensures.whole c.in-Ok-read_ptrs.ensures.ok
