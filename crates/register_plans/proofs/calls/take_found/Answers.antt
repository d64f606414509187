use Rattle.std.proofs.Common.{◌≡◌, ◌∙◌, ℕ, List, ap, arith, map, take, count_by}
use Rattle.std.proofs.lemmas.List.{take_all}
use Rattle.ipam_data.specs.RowList.{page}
use Rattle.ipam_data.specs.Pages.{page_of}
use Rattle.register_plans.specs.Candidates.{rows_of}
use Rattle.register_plans.proofs.Paging.{met_found, views_found, few_met}
use Rattle.register_plans.proofs.Found.{all_found, all_counted}
use Rattle.register_plans.proofs.calls.take_found.Goals as goal

pub take_by_id-requires : goal.take_by_id-requires
take_by_id-requires g c =
    let rules = g.T.Listed.rules in
    let rows = g.R.RowsOf.rows c.args.among.now in
    let least = few_met rules.id rows (g.T.Listed.meets c.args.filter.now) c.args.ids.now c.found.id-index c.found.met c.found.invariant.0 in
    let few = c.requires.ids.few in
    record { few = omega arith }

pub found-preserved : goal.found-preserved
found-preserved g c =
    let rules = g.T.Listed.rules in
    let test = g.T.Listed.meets c.args.filter.now in
    let rows = g.R.RowsOf.rows c.args.among.now in (
      met_found rules.id rows test c.args.ids.now c.found.id-index 0 c.found.met _ c.found-test.true c.found.invariant.0 c.in_ok-met.ensures.met,
      views_found rules.id rows rules.view test c.args.limit c.args.offset c.args.ids.now c.found.id-index 0 c.found.met c.found.views.items _ c.found-test.true c.found.invariant.0 c.found.invariant.1 c.in_ok-met.ensures.views,
    )

pub returns-clause-met : goal.returns-clause-met
returns-clause-met g c =
    let rules = g.T.Listed.rules in
    let test = g.T.Listed.meets c.args.filter.now in
    let rows = g.R.RowsOf.rows c.args.among.now in
    let all : take c.found.id-index c.args.ids.now ≡ c.args.ids.now = take_all c.found.id-index c.args.ids.now c.found-test.false in
    c.found.invariant.0 ∙ ap (λ (ns : List ℕ). count_by test (rows_of rules.id rows ns)) all ∙ all_counted rules.id test rows c.args.ids.now c.count-count.ensures.ordered c.requires.ids

pub returns-clause-views : goal.returns-clause-views
returns-clause-views g c =
    let rules = g.T.Listed.rules in
    let test = g.T.Listed.meets c.args.filter.now in
    let rows = g.R.RowsOf.rows c.args.among.now in
    let all : take c.found.id-index c.args.ids.now ≡ c.args.ids.now = take_all c.found.id-index c.args.ids.now c.found-test.false in
    c.found.invariant.1 ∙ ap (λ (ns : List ℕ). page_of rules.view test c.args.limit c.args.offset (rows_of rules.id rows ns)) all
    ∙ ap (λ (ys : List _). map rules.view (page c.args.limit c.args.offset ys)) (all_found rules.id test rows c.args.ids.now c.count-count.ensures.ordered c.requires.ids)
