use Rattle.std.proofs.Common.{ap, arith}
use Rattle.ip_ranges.specs.Tracks.{Listed}
use Rattle.ip_ranges.proofs.Entries.{put_sorted, put_spans, put_separate, put_wild}
use Rattle.ip_ranges.proofs.tracks.Track.insert.Goals as goal

pub invariant_of-self : goal.invariant_of-self
invariant_of-self c =
    let es = c.self.inside.entries.items in
    let new = c.put_in.new.items.items in
    let at = c.beginning_before-at.result in
    let held = c.self.invariant in
    let point = rw (c.as_slice.ensures.value, c.low.ensures.lane, c.low.ensures.value) at c.beginning_before-at.ensures.point in
    let bound = rw c.as_slice.ensures.value at c.beginning_before-at.ensures.bound in
    let value = c.low.ensures.value in
    let few = c.low.ensures.bound in
    let len = c.put_in.ensures.len in
    let len_too = c.put_in-2.ensures.len in
    let room = c.put_in.ensures.capacity in
    let room_too = c.put_in-2.ensures.capacity in
    let one_at_least = rw (← ap (λ (t : Listed). t.spare) c.self.view_is) at c.requires.room in (
      put_sorted es new at c.args.entry held.0 bound point c.put_in.ensures.items,
      put_spans es new c.self.inside.spans.items c.put_in-2.new.items.items at c.args.entry held.1 bound c.put_in.ensures.items c.put_in-2.ensures.items,
      λ e. (let f = rw c.as_slice-2.ensures.value at c.stay_separate-separate.ensures e in put_separate es new at c.args.entry (held.2 f.0) bound f.1 c.put_in.ensures.items),
      put_wild es new at c.args.entry held.3 (omega arith) c.put_in.ensures.items,
      omega (arith, held.4),
      omega (arith, held.5),
      omega (arith, held.4, held.6),
    )
