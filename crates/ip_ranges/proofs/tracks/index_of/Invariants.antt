use Rattle.std.proofs.Common.{◌≡◌, take}
use Rattle.std.specs.List.{count_by}
use Rattle.ip_ranges.specs.Tracks.{is_same}
use Rattle.ip_ranges.proofs.tracks.index_of.Given as goal

abbrev pub invariant-scan : goal.invariant-scan
invariant-scan l = record { none : count_by (is_same l.entry) (take l.at l.entries) ≡ 0 }
