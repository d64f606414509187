use Rattle.std.proofs.Common.{◌≡◌, Some, sym, subst}
use Rattle.ipam_data.specs.declared.range.IpRange.{IpRange}
use Rattle.ipam_data.specs.RowList.{AllAre, row_at}
use Rattle.ipam_data.specs.Rows.{range_id}
use Rattle.ipam_data.specs.Lawful.{IsRange}
use Rattle.placed_book.specs.RowBook.{Book}
use Rattle.register_claims.proofs.Pieces.{of_family}
use Rattle.register_claims.proofs.ranges.pieces_of.Goals as goal

pub pieces-requires-clause-each : goal.pieces-requires-clause-each
pieces-requires-clause-each c = subst (λ (b : Book IpRange). AllAre IsRange b.rows) (sym c.ranges-2.ensures) c.requires.lawful.ranges.each

pub returns-clause-family : goal.returns-clause-family
returns-clause-family c =
    of_family (λ v. v.items) c.pieces.result (row_at range_id c.ranges-2.result.now.rows c.args.id) c.args._range.now
    (subst (λ (b : Book IpRange). row_at range_id b.rows c.args.id ≡ Some c.args._range.now) (sym c.ranges-2.ensures) c.requires.there) c.pieces.ensures
