use Rattle.std.proofs.Common.{arith}
use Rattle.ip_ranges.specs.declared.SpanKind.TheVariants.{All, Utilized, Populated}
use Rattle.ip_ranges.proofs.Spanned.{cut_track}
use Rattle.ip_ranges.proofs.RangeBookBook.cut.Goals as goal

pub invariant_of-self : goal.invariant_of-self
invariant_of-self c =
    let held = c.self.invariant in
    let rows = c.self.inside.rows.rows in
    let spare = c.forget.ensures.spare in
    let spare_too = c.forget-2.ensures.spare in
    let spare_there = c.forget-3.ensures.spare in
    let room = c.cut.ensures.spare in (
      omega (arith, held.0),
      omega (arith, held.1),
      omega (arith, held.2),
      omega (arith, held.3),
      cut_track All rows c.cut.new.self.rows c.self.inside.all.entries c.forget.new.track.entries c.args.id c.in_order.ensures.ordered held.4 c.forget.ensures.counts c.cut.ensures.rows,
      cut_track Utilized rows c.cut.new.self.rows c.self.inside.utilized.entries c.forget-2.new.track.entries c.args.id c.in_order.ensures.ordered held.5 c.forget-2.ensures.counts c.cut.ensures.rows,
      cut_track Populated rows c.cut.new.self.rows c.self.inside.populated.entries c.forget-3.new.track.entries c.args.id c.in_order.ensures.ordered held.6 c.forget-3.ensures.counts c.cut.ensures.rows,
    )
