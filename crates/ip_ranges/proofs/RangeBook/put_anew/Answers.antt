use Rattle.std.proofs.Common.{arith, refl, ap}
use Rattle.ipam_data.specs.declared.range.IpRange.{IpRange}
use Rattle.placed_book.specs.RowBook.{Book}
use Rattle.ip_ranges.specs.declared.SpanKind.TheVariants.{All, Utilized, Populated}
use Rattle.ip_ranges.proofs.Spanned.{put_track}
use Rattle.ip_ranges.proofs.RangeBook.put_anew.Goals as goal

pub invariant_of-self : goal.invariant_of-self
invariant_of-self c =
    let held = c.self.invariant in
    let rows = c.self.inside.rows.rows in
    let one_at_least = rw (← ap (λ (b : Book IpRange). b.spare) c.self.view_is) at c.requires.room in
    let spare = c.forget.ensures.spare in
    let spare_too = c.forget-2.ensures.spare in
    let spare_there = c.forget-3.ensures.spare in
    let noted = c.note.ensures.spare in
    let noted_too = c.note-2.ensures.spare in
    let noted_there = c.note-3.ensures.spare in
    let room = c.put.ensures.spare in (
      omega (arith, held.0),
      omega (arith, held.1),
      omega (arith, held.2),
      omega (arith, held.3),
      put_track All rows c.put.new.self.rows c.self.inside.all.entries c.forget.new.track.entries c.note.new.track.entries c.args.row c.args.row.id refl held.4 c.forget.ensures.counts c.note.ensures.counts c.put.ensures.rows,
      put_track Utilized rows c.put.new.self.rows c.self.inside.utilized.entries c.forget-2.new.track.entries c.note-2.new.track.entries c.args.row c.args.row.id refl held.5 c.forget-2.ensures.counts c.note-2.ensures.counts c.put.ensures.rows,
      put_track Populated rows c.put.new.self.rows c.self.inside.populated.entries c.forget-3.new.track.entries c.note-3.new.track.entries c.args.row c.args.row.id refl held.6 c.forget-3.ensures.counts c.note-3.ensures.counts c.put.ensures.rows,
    )
