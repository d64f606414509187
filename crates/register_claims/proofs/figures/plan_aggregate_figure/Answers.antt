use Rattle.std.proofs.Common.{◌≡◌, Some}
use Rattle.ipam_data.specs.RowList.{row_at}
use Rattle.ipam_data.specs.Rows.{aggregate_id}
use Rattle.register_claims.proofs.Counted.{there_at}
use Rattle.register_claims.proofs.figures.plan_aggregate_figure.Goals as goal

pub figure_of_aggregate-requires-clause-there : goal.figure_of_aggregate-requires-clause-there
figure_of_aggregate-requires-clause-there c =
    let found : row_at aggregate_id c.args.row_tables.now.aggregates.rows c.args.id ≡ Some c.in-Some.row.now = (let a = c.in-Some.ensures in let b = c.aggregates.ensures.book in cc) in
    there_at aggregate_id c.args.row_tables.now.aggregates.rows c.args.id c.in-Some.row.now found
