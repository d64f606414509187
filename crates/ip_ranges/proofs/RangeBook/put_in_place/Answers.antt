use Rattle.std.proofs.Common.{arith, sym, ap, subst}
use Rattle.ipam_data.specs.declared.range.IpRange.{IpRange}
use Rattle.placed_book.specs.RowBook.{Book}
use Rattle.ip_ranges.specs.declared.SpanKind.TheVariants.{All, Utilized, Populated}
use Rattle.ip_ranges.specs.Tracks.{IsKept}
use Rattle.ip_ranges.proofs.Spanned.{kept_track}
use Rattle.ip_ranges.proofs.RangeBook.put_in_place.Goals as goal

pub invariant_of-self : goal.invariant_of-self
invariant_of-self c =
    let held = c.self.invariant in
    let rows = c.self.inside.rows.rows in
    let one_at_least = rw (← ap (λ (b : Book IpRange). b.spare) c.self.view_is) at c.requires.room in
    let kept = subst (λ (b : Book IpRange). IsKept b.rows c.args.row) (sym c.self.view_is) c.requires.kept in
    let room = c.put.ensures.spare in (
      omega (arith, held.0),
      omega (arith, held.1),
      omega (arith, held.2),
      omega (arith, held.3),
      kept_track All rows c.put.new.self.rows c.self.inside.all.entries c.args.row held.4 kept c.put.ensures.rows,
      kept_track Utilized rows c.put.new.self.rows c.self.inside.utilized.entries c.args.row held.5 kept c.put.ensures.rows,
      kept_track Populated rows c.put.new.self.rows c.self.inside.populated.entries c.args.row held.6 kept c.put.ensures.rows,
    )
