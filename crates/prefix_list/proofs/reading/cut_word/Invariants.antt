use Rattle.std.proofs.Common.{ℕ, ◌≢◌, ◌<◌, slice_index}
use Rattle.prefix_list.proofs.reading.cut_word.Given as goal

abbrev pub invariant-scan : goal.invariant-scan
invariant-scan l = (k : ℕ) → k < l.i → slice_index l.text k ≢ 32
