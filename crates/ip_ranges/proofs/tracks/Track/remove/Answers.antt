use Rattle.std.proofs.Common.{ap, ◌∙◌, arith}
use Rattle.std.specs.List.{count_by}
use Rattle.ip_ranges.specs.Tracks.{Listed, is_wild}
use Rattle.ip_ranges.proofs.Entries.{gone_counts, gone_sorted, gone_spans, gone_separate}
use Rattle.ip_ranges.proofs.tracks.Track.remove.Goals as goal

pub invariant_of-self : goal.invariant_of-self
invariant_of-self c =
    let es = c.self.inside.entries.items in
    let at = rw c.as_slice.ensures.value at c.in-Some.ensures.at in
    let held = c.self.invariant in
    let wild = gone_counts es c.remove.new.self.items c.in-Some.at c.args.entry is_wild at.0 (at.1 c.args.entry) c.remove.ensures.items in
    let none = held.3 in
    let len = c.remove.ensures.len in
    let len_too = c.remove-in-Some.ensures.len in
    let room = c.remove.ensures.capacity in
    let room_too = c.remove-in-Some.ensures.capacity in (
      gone_sorted es c.remove.new.self.items c.in-Some.at held.0 at.0 c.remove.ensures.items,
      gone_spans es c.remove.new.self.items c.self.inside.spans.items c.remove-in-Some.new.self.items c.in-Some.at held.1 at.0 c.remove.ensures.items c.remove-in-Some.ensures.items,
      λ e. gone_separate es c.remove.new.self.items c.in-Some.at (held.2 e) at.0 c.remove.ensures.items,
      omega arith,
      omega (arith, held.4),
      omega (arith, held.5),
      omega (arith, held.4, held.6),
    )

pub returns-clause-counts : goal.returns-clause-counts
returns-clause-counts c = λ p. (
    let at = rw c.as_slice.ensures.value at c.in-Some.ensures.at in
    let same = ap (λ (t : Listed). count_by p t.entries) c.self.view_is in
    gone_counts c.self.inside.entries.items c.remove.new.self.items c.in-Some.at c.args.entry p at.0 (at.1 c.args.entry) c.remove.ensures.items ∙ same
    )
