use Rattle.std.proofs.Common.{List, ap, refl, take, sym, ◌≡◌, ◌∙◌}
use Rattle.std.proofs.lemmas.List.{take_all}
use Rattle.std.proofs.lemmas.Option.{slice_get_read}
use Rattle.ipam_data.proofs.Paging.{met_more, views_more}
use Rattle.ipam_data.specs.Pages.{page_of}
use Rattle.number_pools.specs.declared.rows.Member.{Member}
use Rattle.number_pools.specs.Steps.{is_listed}
use Rattle.pool_register.proofs.pages.take_all.Goals as goal

pub row-preserved : goal.row-preserved
row-preserved c =
    let listed = is_listed c.args.rows.now.pools.ranges.rows c.args.kind c.args.query.now in
    let query = c.args.query.now in
    let members = c.members-members.result.now in
    let at = slice_get_read members _ c.row.member-index c.member-item.result refl c.row-test.true c.member-item.is in (
      c.in_ok-met.ensures.met ∙ met_more listed members c.row.member-index c.row.met c.member-item.result at c.row.invariant.0,
      c.in_ok-met.ensures.page ∙ views_more (λ m. m) listed query.limit query.offset members c.row.member-index c.row.met c.member-item.result c.row.page.items at c.row.invariant.0 c.row.invariant.1,
    )

pub returns-clause-page : goal.returns-clause-page
returns-clause-page c =
    let listed = is_listed c.args.rows.now.pools.ranges.rows c.args.kind c.args.query.now in
    let query = c.args.query.now in
    let members = c.members-members.result.now in
    let all : take c.row.member-index members ≡ members = take_all c.row.member-index members c.row-test.false in
    c.row.invariant.1 ∙ ap (λ (ms : List Member). page_of (λ m. m) listed query.limit query.offset ms) (all ∙ c.members-members.ensures)
