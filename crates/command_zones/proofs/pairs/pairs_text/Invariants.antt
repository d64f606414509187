use Rattle.std.proofs.Common.{◌≡◌, take}
use Rattle.command_zones.specs.Pairs.{pairs_text_of}
use Rattle.command_zones.proofs.pairs.pairs_text.Given as goal

abbrev pub invariant-loop-pair : goal.invariant-loop-pair
invariant-loop-pair l = l.text.items ≡ pairs_text_of (take l.pair-index l.pairs)
