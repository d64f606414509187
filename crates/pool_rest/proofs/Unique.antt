-- A request asks for one thing.
use Rattle.std.proofs.Common.{◌≡◌, List, ℕ, Option, Some, None, Result, Ok, Err, sym, ◌∙◌, ap, subst}
use Rattle.ipam_data.specs.declared.replies.Refusal.{Refusal}
use Rattle.number_pools.specs.declared.rows.PoolKind.{PoolKind}
use Rattle.number_pools.specs.declared.calls.MemberQuery.{MemberQuery}
use Rattle.pool_json.specs.declared.bodies.RequestRefusal.{RequestRefusal}
use Rattle.pool_json.proofs.Unique.{claim_is_one, edit_is_one, range_body_is_one}
use Rattle.pool_json.proofs.Recording.{record_is_one}
use Rattle.rest_query.proofs.Unique.{limit_is_one, offset_is_one, one_row_test}
use Rattle.rest_query.specs.Query.{path_in, query_in}
use Rattle.rest_query.specs.declared.asked.Available.TheVariants.{Addrs}
use Rattle.pool_rest.specs.declared.route.Route.{Route}
use Rattle.pool_rest.specs.declared.route.Route.TheVariants.{Many, Single, Within}
use Rattle.pool_rest.specs.declared.route.Base.{Base}
use Rattle.pool_rest.specs.declared.route.Base.TheVariants.{Ranges, Members}
use Rattle.pool_rest.specs.declared.route.RangePart.TheVariants.{Free, Given}
use Rattle.pool_rest.specs.declared.route.Method.{Method}
use Rattle.pool_rest.specs.declared.route.Method.TheVariants.{Get, Post, Patch, Delete}
use Rattle.pool_rest.specs.Routes.{method_named}
use Rattle.pool_rest.specs.Listing.{IsLimited, IsMoved, IsPaged, IsQuery, IsTested, made_of}
use Rattle.pool_rest.specs.Requests.{Asked, IsMembersAsked, IsRangesAsked, asks_page, IsFreeAsked, IsGivenAsked, IsEditAsked, IsOneAsked, IsAskedOf, IsAskedAt, asks_range, asks_range_edit, asks_member_edit, asks_free, asks_claim, asks_record}
use Rattle.pool_rest.specs.Answers.{refused_answer}
use Rattle.pool_rest.specs.Laws.{RequestIsOne}
use Rattle.pool_rest.proofs.Routed.{one_route}

one_of_ranges : (kind : PoolKind) (method : Option Method) (body : List ℕ) (a b : Asked) → IsRangesAsked kind method body a → IsRangesAsked kind method body b → a ≡ b
one_of_ranges kind (Some Get) body a b h g = h ∙ sym g
one_of_ranges kind (Some Post) body a b h g = h.2 ∙ ap (asks_range kind) (range_body_is_one body h.0 g.0 h.1 g.1) ∙ sym g.2
one_of_ranges kind (Some Patch) body a b h g = h ∙ sym g
one_of_ranges kind (Some Delete) body a b h g = h ∙ sym g
one_of_ranges kind None body a b h g = h ∙ sym g

one_moved : (make : ℕ → MemberQuery) (query : List ℕ) (a b : Result MemberQuery RequestRefusal) → IsMoved make query a → IsMoved make query b → a ≡ b
one_moved make query a b h g = h.2 ∙ ap (made_of make) (offset_is_one query h.0 g.0 h.1 g.1) ∙ sym g.2

one_limited : (make : ℕ → ℕ → MemberQuery) (query : List ℕ) (limit : Result ℕ Refusal) (a b : Result MemberQuery RequestRefusal)
    → IsLimited make query limit a → IsLimited make query limit b → a ≡ b
one_limited make query (Ok limit) a b h g = one_moved (make limit) query a b h g
one_limited make query (Err refusal) a b h g = h ∙ sym g

one_paged : (make : ℕ → ℕ → MemberQuery) (query : List ℕ) (a b : Result MemberQuery RequestRefusal) → IsPaged make query a → IsPaged make query b → a ≡ b
one_paged make query a b h g =
    one_limited make query g.0 a b (subst (λ (limit : Result ℕ Refusal). IsLimited make query limit a) (limit_is_one Addrs query h.0 g.0 h.1 g.1) h.2) g.2

one_tested : (kind : PoolKind) (query : List ℕ) (number range : Option (Option ℕ)) (a b : Result MemberQuery RequestRefusal)
    → IsTested kind query number range a → IsTested kind query number range b → a ≡ b
one_tested kind query None range a b h g = h ∙ sym g
one_tested kind query (Some number) None a b h g = h ∙ sym g
one_tested kind query (Some number) (Some range) a b h g = one_paged _ query a b h g

one_query : (kind : PoolKind) (query : List ℕ) (a b : Result MemberQuery RequestRefusal) → IsQuery kind query a → IsQuery kind query b → a ≡ b
one_query kind query a b h g =
    let number : h.number ≡ g.number = one_row_test _ h.number g.number h.numbered g.numbered in
    let range : h.range ≡ g.range = one_row_test _ h.range g.range h.ranged g.ranged in
    one_tested kind query g.number g.range a b
    (subst (λ (n : Option (Option ℕ)). IsTested kind query n g.range a) number (subst (λ (n : Option (Option ℕ)). IsTested kind query h.number n a) range h.is)) g.is

one_of_members : (kind : PoolKind) (method : Option Method) (query : List ℕ) (a b : Asked) → IsMembersAsked kind method query a → IsMembersAsked kind method query b → a ≡ b
one_of_members kind (Some Get) query a b h g = h.2 ∙ ap (asks_page kind) (one_query kind query h.0 g.0 h.1 g.1) ∙ sym g.2
one_of_members kind (Some Post) query a b h g = h ∙ sym g
one_of_members kind (Some Patch) query a b h g = h ∙ sym g
one_of_members kind (Some Delete) query a b h g = h ∙ sym g
one_of_members kind None query a b h g = h ∙ sym g

one_of_free : (kind : PoolKind) (id : ℕ) (method : Option Method) (query body : List ℕ) (a b : Asked)
    → IsFreeAsked kind id method query body a → IsFreeAsked kind id method query body b → a ≡ b
one_of_free kind id (Some Get) query body a b h g = h.2 ∙ ap (asks_free kind id) (limit_is_one Addrs query h.0 g.0 h.1 g.1) ∙ sym g.2
one_of_free kind id (Some Post) query body a b h g = h.2 ∙ ap (asks_claim kind id) (claim_is_one kind body h.0 g.0 h.1 g.1) ∙ sym g.2
one_of_free kind id (Some Patch) query body a b h g = h ∙ sym g
one_of_free kind id (Some Delete) query body a b h g = h ∙ sym g
one_of_free kind id None query body a b h g = h ∙ sym g

one_of_given : (kind : PoolKind) (id : ℕ) (method : Option Method) (body : List ℕ) (a b : Asked) → IsGivenAsked kind id method body a → IsGivenAsked kind id method body b → a ≡ b
one_of_given kind id (Some Get) body a b h g = h ∙ sym g
one_of_given kind id (Some Post) body a b h g = h.2 ∙ ap (asks_record kind id) (record_is_one kind body h.0 g.0 h.1 g.1) ∙ sym g.2
one_of_given kind id (Some Patch) body a b h g = h ∙ sym g
one_of_given kind id (Some Delete) body a b h g = h ∙ sym g
one_of_given kind id None body a b h g = h ∙ sym g

one_of_edit : (base : Base) (id : ℕ) (body : List ℕ) (a b : Asked) → IsEditAsked base id body a → IsEditAsked base id body b → a ≡ b
one_of_edit (Ranges kind) id body a b h g = h.2 ∙ ap (asks_range_edit kind id) (edit_is_one.ranges body h.0 g.0 h.1 g.1) ∙ sym g.2
one_of_edit (Members kind) id body a b h g = h.2 ∙ ap (asks_member_edit kind id) (edit_is_one.members kind body h.0 g.0 h.1 g.1) ∙ sym g.2

one_of_one : (base : Base) (id : ℕ) (method : Option Method) (body : List ℕ) (a b : Asked) → IsOneAsked base id method body a → IsOneAsked base id method body b → a ≡ b
one_of_one base id (Some Get) body a b h g = h ∙ sym g
one_of_one base id (Some Post) body a b h g = h ∙ sym g
one_of_one base id (Some Patch) body a b h g = one_of_edit base id body a b h g
one_of_one base id (Some Delete) body a b h g = h ∙ sym g
one_of_one base id None body a b h g = h ∙ sym g

one_of : (route : Route) (method : Option Method) (query body : List ℕ) (a b : Asked) → IsAskedOf route method query body a → IsAskedOf route method query body b → a ≡ b
one_of (Many (Ranges kind)) method query body a b h g = one_of_ranges kind method body a b h g
one_of (Many (Members kind)) method query body a b h g = one_of_members kind method query a b h g
one_of (Single base id) method query body a b h g = one_of_one base id method body a b h g
one_of (Within Free kind id) method query body a b h g = one_of_free kind id method query body a b h g
one_of (Within Given kind id) method query body a b h g = one_of_given kind id method body a b h g

one_at : (route : Option Route) (method query body : List ℕ) (a b : Asked) → IsAskedAt route method query body a → IsAskedAt route method query body b → a ≡ b
one_at None method query body a b h g = h ∙ sym g
one_at (Some route) method query body a b h g = one_of route (method_named method) query body a b h g

pub request_is_one : RequestIsOne
request_is_one = record {
  routes = one_route;
  requests = λ method target body a b h g.
      one_at g.route method (query_in target) body a b
      (subst (λ (route : Option Route). IsAskedAt route method (query_in target) body a) (one_route (path_in target) h.route g.route h.found g.found) h.is) g.is;
  answers = λ target refusal a b h g.
      h.2 ∙ ap (λ (route : Option Route). refused_answer route refusal) (one_route (path_in target) h.0 g.0 h.1 g.1) ∙ sym g.2;
}
