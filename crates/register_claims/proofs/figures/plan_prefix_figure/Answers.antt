use Rattle.std.proofs.Common.{◌≡◌, Some}
use Rattle.ipam_data.specs.RowList.{row_at}
use Rattle.ipam_data.specs.Rows.{prefix_id}
use Rattle.register_claims.proofs.Counted.{there_at}
use Rattle.register_claims.proofs.figures.plan_prefix_figure.Goals as goal

pub figure_of_prefix-requires-clause-there : goal.figure_of_prefix-requires-clause-there
figure_of_prefix-requires-clause-there c =
    let found : row_at prefix_id c.args.row_tables.now.prefixes.rows c.args.id ≡ Some c.in-Some.row.now = (let a = c.in-Some.ensures in let b = c.prefixes.ensures.book in cc) in
    there_at prefix_id c.args.row_tables.now.prefixes.rows c.args.id c.in-Some.row.now found
