use Rattle.command_load.proofs.Figure.{figure_asked}
use Rattle.command_load.proofs.claims.ask_figure.Goals as goal

pub returns-clause-asked : goal.returns-clause-asked
returns-clause-asked g c =
    figure_asked c.args.seat c.call-seat.result.0 c.figure.result c.call-seat.result.1 c.call-seat.result.2 c.percentage-percent.result c.call-seat.ensures c.figure.ensures c.percentage-percent.ensures c.requires.alone
