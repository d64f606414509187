use Rattle.std.proofs.Common.{rules}
use Rattle.ipam_data.specs.Rows.{range_id}
use Rattle.ipam_data.proofs.Kept.{found_there}
use Rattle.register_claims.proofs.hosts.plan_range_figure.Goals as goal

pub figure_of_range-requires : goal.figure_of_range-requires
figure_of_range-requires c = c.requires.ranges.each c.in-Some.row.now (found_there range_id c.args.row_tables.now.ranges.rows c.args.id c.in-Some.row.now (search rules)).0
