use Rattle.std.proofs.Common.{sym}
use Rattle.place_search.proofs.search.push_blocks.Goals as goal

pub times-requires : goal.times-requires
times-requires g c = c.requires.family c.block-item.result (c.walk.block-index, c.walk-test.true, sym c.block-item.is)
