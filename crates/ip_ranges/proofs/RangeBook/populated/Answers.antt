use Rattle.std.proofs.Common.{◌≡◌, None, sym, subst}
use Rattle.ipam_data.specs.declared.range.IpRange.{IpRange}
use Rattle.ipam_data.specs.Rows.{range_id}
use Rattle.ipam_data.specs.Ranges.{is_populated_at, populated_at}
use Rattle.ipam_data.specs.RowList.{least}
use Rattle.placed_book.specs.RowBook.{Book}
use Rattle.ip_ranges.proofs.Spanned.{none_populated}
use Rattle.ip_ranges.proofs.RangeBook.populated.Goals as goal

pub returns : goal.returns
unfolding populated_at
returns c = sym (
    subst (λ (b : Book IpRange). least range_id (is_populated_at c.args.table c.args.host) b.rows ≡ None) c.self.view_is
    (none_populated c.self.inside.rows.rows c.self.inside.populated.entries c.args.table c.args.host c.spot.result c.self.invariant.6 c.spot.ensures (c.may_meet.ensures c.if-may_meet.false))
    )
