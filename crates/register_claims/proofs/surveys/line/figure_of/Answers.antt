use Rattle.ipam_data.specs.Claims.{prefix_figure}
use Rattle.register_tables.specs.Held.{state_of}
use Rattle.register_claims.proofs.SurveyFigures.{figure_read, same_figure}
use Rattle.register_claims.proofs.surveys.line.figure_of.Goals as goal

pub figure_in-figure-requires : goal.figure_in-figure-requires
figure_in-figure-requires c =
    (prefix_figure (state_of c.args.row_tables.now) c.args.row.now, figure_read (state_of c.args.row_tables.now) c.args.row.now c.plan_utilization-planned.result c.requires.lawful.prefixes.row_list.ordered c.requires.there c.plan_utilization-planned.ensures)

pub returns : goal.returns
returns c =
    same_figure c.plan_utilization-planned.result c.figure_in-figure.result (prefix_figure (state_of c.args.row_tables.now) c.args.row.now) c.figure_in-figure.ensures
    (figure_read (state_of c.args.row_tables.now) c.args.row.now c.plan_utilization-planned.result c.requires.lawful.prefixes.row_list.ordered c.requires.there c.plan_utilization-planned.ensures)
