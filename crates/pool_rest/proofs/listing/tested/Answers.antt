use Rattle.std.proofs.Common.{ℕ, List, Option, Some, subst, sym}
use Rattle.number_pools.specs.declared.calls.MemberQuery.{MemberQuery}
use Rattle.pool_json.specs.Bodies.{OrWant}
use Rattle.pool_rest.specs.Listing.{IsPaged, IsTested}
use Rattle.pool_rest.proofs.listing.tested.Goals as goal

pub returns-in-Ok : goal.returns-in-Ok
returns-in-Ok c =
    let asked = subst (λ (name : Option (List ℕ)). OrWant (IsPaged (λ limit offset. let query : MemberQuery = record { number = c.in-Some.number; range = c.in-Some-range.range; name = name; limit = limit; offset = offset } in query) c.args.query.now) c.paged.result)
    c.in-Ok.ensures c.paged.ensures in
    subst (λ (number : Option (Option ℕ)). OrWant (IsTested c.args.kind c.args.query.now number c.args.range) c.paged.result) (sym c.in-Some.is)
    (subst (λ (range : Option (Option ℕ)). OrWant (IsTested c.args.kind c.args.query.now (Some c.in-Some.number) range) c.paged.result) (sym c.in-Some-range.is) asked)
