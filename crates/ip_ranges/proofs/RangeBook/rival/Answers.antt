use Rattle.std.proofs.Common.{◌≡◌, None, sym, subst}
use Rattle.ipam_data.specs.declared.range.IpRange.{IpRange}
use Rattle.ipam_data.specs.Rows.{range_id}
use Rattle.ipam_data.specs.Ranges.{crosses}
use Rattle.ipam_data.specs.RowList.{least_rival}
use Rattle.placed_book.specs.RowBook.{Book}
use Rattle.ip_ranges.proofs.Spanned.{no_rival}
use Rattle.ip_ranges.proofs.RangeBook.rival.Goals as goal

pub returns : goal.returns
returns c = sym (
    subst (λ (b : Book IpRange). least_rival range_id crosses b.rows c.args.row.now ≡ None) c.self.view_is
    (no_rival c.self.inside.rows.rows c.self.inside.all.entries c.args.row.now c.entry.result c.self.invariant.4 c.entry.ensures (c.may_meet.ensures c.if-may_meet.false))
    )
