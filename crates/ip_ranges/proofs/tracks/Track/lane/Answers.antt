use Rattle.std.proofs.Common.{◌-◌, List, take, drop, ap, sym, subst, ◌∙◌}
use Rattle.std.specs.List.Sorted.{IsNonDecreasingBy}
use Rattle.inet_num.specs.declared.Span.{Span}
use Rattle.ip_ranges.specs.Tracks.{Listed, lane_spans}
use Rattle.ip_ranges.proofs.Entries.{lane_part, lane_rises}
use Rattle.ip_ranges.proofs.tracks.Track.lane.Goals as goal

pub returns-clause-spans : goal.returns-clause-spans
returns-clause-spans c =
    let at = c.lane_bounds-from.result in
    let held = c.self.invariant in
    let bound = rw c.as_slice.ensures.value at c.lane_bounds-from.ensures.bound in
    let from = rw c.as_slice.ensures.value at c.lane_bounds-from.ensures.from in
    let to = rw c.as_slice.ensures.value at c.lane_bounds-from.ensures.to in
    let part = lane_part c.args.lane c.self.inside.entries.items c.self.inside.spans.items at.0 at.1 held.1 held.3 c.lane_bounds-from.ensures.order bound from to in
    ap (λ (ys : List Span). take (at.1 - at.0) (drop at.0 ys)) c.deref.ensures.value ∙ part ∙ ap (λ (t : Listed). lane_spans c.args.lane t.entries) c.self.view_is

pub returns-clause-rises : goal.returns-clause-rises
returns-clause-rises c =
    let at = c.lane_bounds-from.result in
    let held = c.self.invariant in
    let bound = rw c.as_slice.ensures.value at c.lane_bounds-from.ensures.bound in
    let from = rw c.as_slice.ensures.value at c.lane_bounds-from.ensures.from in
    let to = rw c.as_slice.ensures.value at c.lane_bounds-from.ensures.to in
    let part = lane_part c.args.lane c.self.inside.entries.items c.self.inside.spans.items at.0 at.1 held.1 held.3 c.lane_bounds-from.ensures.order bound from to in
    let shown = ap (λ (ys : List Span). take (at.1 - at.0) (drop at.0 ys)) c.deref.ensures.value ∙ part in
    subst (IsNonDecreasingBy (λ (s : Span). s.first.value)) (sym shown) (lane_rises c.args.lane c.self.inside.entries.items held.0)
