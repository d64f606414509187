use Rattle.std.proofs.Common.{◌≡◌, sym, subst, ◌∙◌, arith}
use Rattle.std.specs.List.{count_by}
use Rattle.ip_ranges.specs.Tracks.{Listed, is_met}
use Rattle.ip_ranges.proofs.Entries.{none_met, none_met_from, was_true}
use Rattle.ip_ranges.proofs.tracks.Track.may_meet.Goals as goal

pub returns-then-from-len : goal.returns-then-from-len
returns-then-from-len c = λ f. (
    let es = c.self.inside.entries.items in
    let point = rw (c.as_slice.ensures.value, c.low.ensures.lane, c.low.ensures.value) at c.ending_before-from.ensures.point in
    let before = sym c.is_before.ensures ∙ was_true c.is_before.result f in
    let low_is = c.low-then-from-len.ensures in
    let high_is = c.high.ensures in
    subst (λ (t : Listed). count_by (is_met c.args.entry.now) t.entries ≡ 0) c.self.view_is
    (none_met_from c.args.entry.now c.index.result.now es c.ending_before-from.result c.high.result.lane c.high.result.value c.low-then-from-len.result.lane c.low-then-from-len.result.value (c.self.invariant.2 c.if-not-self.false)
    point c.index.ensures high_is.lane high_is.value low_is.lane low_is.value before)
    )

pub returns-else-from-len : goal.returns-else-from-len
returns-else-from-len c = λ f. (
    let es = c.self.inside.entries.items in
    let point = rw (c.as_slice.ensures.value, c.low.ensures.lane, c.low.ensures.value) at c.ending_before-from.ensures.point in
    let len = rw c.as_slice.ensures.value at c.as_slice.ensures.len in
    let none = c.if-from-len.false in
    let len_is = c.len.ensures in
    subst (λ (t : Listed). count_by (is_met c.args.entry.now) t.entries ≡ 0) c.self.view_is
    (none_met c.args.entry.now es c.ending_before-from.result (c.self.invariant.2 c.if-not-self.false) point (λ d h. absurd (omega arith)))
    )
