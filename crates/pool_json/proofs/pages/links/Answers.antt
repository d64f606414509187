use Rattle.std.proofs.Common.{ap, ◌∙◌}
use Rattle.ipam_json.specs.declared.replies.Links.{Links}
use Rattle.pool_json.specs.Pages.{links_of}
use Rattle.pool_json.proofs.pages.links.Goals as goal

pub returns : goal.returns
returns c =
    ap (λ (next : _). let links : Links = record { next = next; previous = c.in_ok-previous.previous } in links) c.in_ok-next.ensures
    ∙ ap (λ (previous : _). let links : Links = record { next = (links_of c.args.kind c.args.query.now c.args.count c.args.shown).next; previous = previous } in links)
    (c.in_ok-previous.ensures c.args.count c.args.shown)
