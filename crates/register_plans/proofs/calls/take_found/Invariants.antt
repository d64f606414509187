use Rattle.std.proofs.Common.{◌≡◌, take, count_by}
use Rattle.ipam_data.specs.Pages.{page_of}
use Rattle.register_plans.specs.Candidates.{rows_of}
use Rattle.register_plans.proofs.calls.take_found.Given as goal

abbrev pub invariant-found : goal.invariant-found
invariant-found g l =
    (l.met ≡ count_by (g.T.Listed.meets l.filter) (rows_of g.T.Listed.rules.id (g.R.RowsOf.rows l.among) (take l.id-index l.ids)))
    × (l.views.items ≡ page_of g.T.Listed.rules.view (g.T.Listed.meets l.filter) l.limit l.offset (rows_of g.T.Listed.rules.id (g.R.RowsOf.rows l.among) (take l.id-index l.ids)))
