use Rattle.std.proofs.Common.{◌≡◌, take}
use Rattle.pool_csv.specs.Exports.{ranges_text}
use Rattle.pool_csv.proofs.exports.ranges_text.Given as goal

abbrev pub invariant-loop-range : goal.invariant-loop-range
invariant-loop-range l = l.text.items ≡ ranges_text l.fn.kind (take l.range-index l.ranges)
