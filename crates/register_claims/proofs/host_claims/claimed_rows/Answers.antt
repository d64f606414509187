use Rattle.std.proofs.Common.{◌≡◌, ap, sym, ◌∙◌, rules, get_or}
use Rattle.inet_num.specs.Net.{Address}
use Rattle.ipam_data.specs.Hosts.{Masked}
use Rattle.register_claims.proofs.HostClaims.{next_view}
use Rattle.register_claims.proofs.host_claims.claimed_rows.Goals as goal

pub items-preserved : goal.items-preserved
items-preserved c =
    let addr : c.masked-host.result.addr ≡ c.index-found-index.result = ap (λ (h : Masked). h.addr) c.masked-host.ensures in
    let at : c.masked-host.result.addr ≡ get_or c.args.found.now c.items.index c.masked-host.result.addr =
    addr ∙ c.index-found-index.is ∙ ap (λ (a : Address). get_or c.args.found.now c.items.index a) (sym addr) in
    next_view c.args.vrf c.args.len c.args.next c.args.items.now c.args.found.now c.items.index c.index-items-index.result c.masked-host.result c.in_ok-row.row c.items.views.items c.push.new.self.items
    c.items-test.true c.requires.count c.index-items-index.is at (ap (λ (h : Masked). h.len) c.masked-host.ensures) c.in_ok-row.ensures c.items.invariant (search rules)
