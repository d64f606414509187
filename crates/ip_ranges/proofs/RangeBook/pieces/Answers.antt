use Rattle.std.proofs.Common.{◌≡◌, ap, sym, subst, ◌∙◌, option_copied, Some}
use Rattle.ipam_data.specs.declared.range.IpRange.{IpRange}
use Rattle.ipam_data.specs.Rows.{range_id}
use Rattle.ipam_data.specs.RowList.{row_at}
use Rattle.placed_book.specs.RowBook.{Book}
use Rattle.ip_ranges.proofs.Rows.{found_there}
use Rattle.ip_ranges.proofs.RangeBook.pieces.Goals as goal

pub pieces_of-requires : goal.pieces_of-requires
pieces_of-requires c =
    let found = sym c.get.ensures ∙ ap option_copied c.in-Some.is in
    c.requires.each c.in-Some.row.now (found_there c.args.self.now.rows c.args.id c.in-Some.row.now (subst (λ (b : Book IpRange). row_at range_id b.rows c.args.id ≡ Some c.in-Some.row.now) c.self.view_is found))
