use Rattle.std.proofs.Common.{◌∙◌}
use Rattle.register_tables.specs.Held.{state_of}
use Rattle.register_claims.specs.PlaceDigits.{placed_row}
use Rattle.register_claims.proofs.Surveyed.{found_is_there, one_more_made}
use Rattle.register_claims.proofs.surveys.placed_lines.Goals as goal

pub placed_line-requires-clause-there : goal.placed_line-requires-clause-there
placed_line-requires-clause-there c = found_is_there c.args.row_tables.now.prefixes.rows c.prefixes.index c.prefix_at-row.result.now c.prefix_at-row.ensures

pub prefixes-preserved : goal.prefixes-preserved
prefixes-preserved c =
    c.in_ok-push.ensures.items ∙ one_more_made (placed_row (state_of c.args.row_tables.now)) c.args.row_tables.now.prefixes.rows c.prefixes.index c.prefix_at-row.result.now
    c.prefixes.placed.items c.placed_line.result c.prefix_at-row.ensures c.prefixes.invariant c.placed_line.ensures
