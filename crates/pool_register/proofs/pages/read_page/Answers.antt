use Rattle.std.proofs.Common.{refl, ◌∙◌}
use Rattle.pool_register.proofs.Paged.{page_read}
use Rattle.pool_register.proofs.pages.read_page.Goals as goal

pub returns : goal.returns
returns c = (
  page_read c.args.rows.now.pools c.args.kind c.args.query.now c.in_ok-copy.field-0 c.in_ok-count.count c.of.result c.in_ok-copy.ensures c.in_ok-count.ensures.met
      (c.of.ensures ∙ c.in_ok-count.ensures.page),
  refl,
)
