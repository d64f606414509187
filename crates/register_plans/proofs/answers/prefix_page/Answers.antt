use Rattle.std.proofs.Common.{◌∙◌}
use Rattle.register_plans.proofs.Answering.{prefix_page_is}
use Rattle.register_plans.proofs.answers.prefix_page.Goals as goal

pub returns : goal.returns
returns g c =
    prefix_page_is c.args.book.now.rows c.args.filter.now c.args.limit c.args.offset c.in_ok-count.count c.take_all.new.views.items c.of.result c.in_ok-count.ensures.met c.in_ok-count.ensures.views
    (c.of.ensures ∙ c.all_figured-views.ensures)
