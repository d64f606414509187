use Rattle.std.proofs.Common.{arith}
use Rattle.ip_ranges.specs.Tracks.{is_same}
use Rattle.ip_ranges.proofs.Counts.{count_none_before}
use Rattle.ip_ranges.proofs.Entries.{before_other}
use Rattle.ip_ranges.proofs.tracks.index_of.Goals as goal

pub scan-init : goal.scan-init
scan-init c =
    let point = rw (c.low.ensures.lane, c.low.ensures.value) at c.beginning_before-from.ensures.point in
    record {
      none = count_none_before (is_same c.args.entry.now) c.args.entries.now c.beginning_before-from.result c.beginning_before-from.ensures.bound (λ k d l. before_other c.args.entry.now _ (point.0 k d (omega arith) l));
    }
