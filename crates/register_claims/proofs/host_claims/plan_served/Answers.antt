use Rattle.std.proofs.Common.{◌≡◌, ap, ◌∙◌, length}
use Rattle.ipam_data.specs.declared.address.IpAddress.{IpAddress}
use Rattle.placed_book.specs.Book.{TabledRows}
use Rattle.register_tables.specs.Held.{state_of}
use Rattle.register_claims.proofs.HostClaims.{place_is, claim_full, made_planned}
use Rattle.register_claims.proofs.host_claims.plan_served.Goals as goal

pub returns-in-Some : goal.returns-in-Some
returns-in-Some c = λ usable served.
    claim_full (state_of c.args.row_tables.now) c.args.answered c.args.items.now c.args.vrf c.args.len c.args.family usable c.args.found.now c.in-Some.refusal c.requires.told served
    (place_is (state_of c.args.row_tables.now) (length c.args.items.now) c.len-count.result c.next-next.result c.spent.result c.no_place.result (c.len-count.ensures.len ∙ ap (λ (b : TabledRows IpAddress). length b.rows) c.addresses.ensures.book) c.next-next.ensures c.spent.ensures c.no_place.ensures ∙ c.in-Some.is)

pub returns-in-None : goal.returns-in-None
returns-in-None c =
    made_planned (state_of c.args.row_tables.now) c.args.answered c.args.items.now c.args.vrf c.args.len c.args.family c.args.found.now c.made.result c.requires.told
    (place_is (state_of c.args.row_tables.now) (length c.args.items.now) c.len-count.result c.next-next.result c.spent.result c.no_place.result (c.len-count.ensures.len ∙ ap (λ (b : TabledRows IpAddress). length b.rows) c.addresses.ensures.book) c.next-next.ensures c.spent.ensures c.no_place.ensures ∙ c.in-None.is) c.made.ensures
