use Rattle.std.proofs.Common.{◌∙◌}
use Rattle.register_tables.specs.Held.{state_of}
use Rattle.register_plans.proofs.ExportRows.{found_is_there, one_more_made}
use Rattle.register_plans.proofs.exports.all_rows.Goals as goal

pub line-requires-clause-there : goal.line-requires-clause-there
line-requires-clause-there g c = found_is_there (g.T.Listed.rules.row_list (state_of c.args.row_tables.now)).rows c.records.index c.row_at_index-row.result.now c.row_at_index-row.ensures

pub records-preserved : goal.records-preserved
records-preserved g c =
    c.in_ok-push.ensures.items ∙ one_more_made (g.T.Exported.as_line (state_of c.args.row_tables.now)) (g.T.Listed.rules.row_list (state_of c.args.row_tables.now)).rows c.records.index c.row_at_index-row.result.now
    c.records.rows.items c.in_ok-line.field-0 c.row_at_index-row.ensures c.records.invariant c.in_ok-line.ensures
