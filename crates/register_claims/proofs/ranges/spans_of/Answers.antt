use Rattle.std.proofs.Common.{sym, subst}
use Rattle.ipam_data.specs.declared.range.IpRange.{IpRange}
use Rattle.ipam_data.specs.RowList.{AllAre, IsApart}
use Rattle.ipam_data.specs.Rows.{range_id}
use Rattle.ipam_data.specs.Ranges.{ShareAddress}
use Rattle.ipam_data.specs.Lawful.{IsRange}
use Rattle.placed_book.specs.RowBook.{Book}
use Rattle.register_claims.proofs.ranges.spans_of.Goals as goal

pub spans-requires-clause-each : goal.spans-requires-clause-each
spans-requires-clause-each c = subst (λ (b : Book IpRange). AllAre IsRange b.rows) (sym c.ranges-2.ensures) c.requires.ranges.each

pub spans-requires-clause-apart : goal.spans-requires-clause-apart
spans-requires-clause-apart c = subst (λ (b : Book IpRange). IsApart range_id ShareAddress b.rows) (sym c.ranges-2.ensures) c.requires.ranges.apart
