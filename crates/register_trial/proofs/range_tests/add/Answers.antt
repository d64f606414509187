use Rattle.std.proofs.Common.{◌+◌, sym, subst, List}
use Rattle.ipam_data.specs.declared.range.IpRange.{IpRange}
use Rattle.ipam_data.specs.RowList.{AllBelow}
use Rattle.ipam_data.specs.Rows.{range_id}
use Rattle.placed_book.proofs.Places.{below_with}
use Rattle.register_trial.proofs.range_tests.add.Goals as goal

pub returns : goal.returns
returns c =
    let below = subst (λ (rows : List IpRange). AllBelow range_id c.args.row.id rows) (sym c.in_ok-reserve.ensures.rows) c.requires.above in
    record { below = subst (λ (rows : List IpRange). AllBelow range_id (c.args.row.id + 1) rows) (sym c.put.ensures.rows) (below_with range_id _ c.args.row below) }
