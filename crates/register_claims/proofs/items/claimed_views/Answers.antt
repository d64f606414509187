use Rattle.std.proofs.Common.{◌+◌, refl}
use Rattle.register_claims.proofs.Claiming.{views_more}
use Rattle.register_claims.proofs.items.claimed_views.Goals as goal

pub items-preserved : goal.items-preserved
items-preserved c =
    views_more c.args.row.now c.args.next c.items.index (c.args.next + c.items.index) c.args.items.now c.args.blocks.now c.index-items-index.result c.index-blocks-index.result
    c.items.views.items c.push.new.self.items c.in_ok-view.view c.items-test.true c.requires.each refl c.index-items-index.is c.index-blocks-index.is
    c.items.invariant c.in_ok-view.ensures c.in_ok-push.ensures.items
