use Rattle.std.proofs.Common.{sym, ◌∙◌}
use Rattle.ipam_data.proofs.Paging.{met_more, views_more}
use Rattle.register_plans.proofs.calls.take_all.Goals as goal

pub rows-preserved : goal.rows-preserved
rows-preserved g c = (
  c.in_ok-met.ensures.met ∙ met_more (g.T.Listed.meets c.args.filter.now) (g.R.RowsOf.rows c.args.among.now) c.rows.index c.rows.met c.row_at_index-row.result.now (sym c.row_at_index-row.ensures) c.rows.invariant.0,
  c.in_ok-met.ensures.views ∙ views_more g.T.Listed.rules.view (g.T.Listed.meets c.args.filter.now) c.args.limit c.args.offset (g.R.RowsOf.rows c.args.among.now) c.rows.index c.rows.met c.row_at_index-row.result.now c.rows.views.items (sym c.row_at_index-row.ensures) c.rows.invariant.0 c.rows.invariant.1,
)
