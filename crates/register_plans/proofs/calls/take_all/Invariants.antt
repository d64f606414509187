use Rattle.std.proofs.Common.{◌≡◌, take, count_by}
use Rattle.ipam_data.specs.Pages.{page_of}
use Rattle.register_plans.proofs.calls.take_all.Given as goal

abbrev pub invariant-rows : goal.invariant-rows
invariant-rows g l =
    (l.met ≡ count_by (g.T.Listed.meets l.filter) (take l.index (g.R.RowsOf.rows l.among)))
    × (l.views.items ≡ page_of g.T.Listed.rules.view (g.T.Listed.meets l.filter) l.limit l.offset (take l.index (g.R.RowsOf.rows l.among)))
