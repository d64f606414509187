-- A request asks for one thing.
use Rattle.std.proofs.Common.{◌≡◌, List, ℕ, Option, Some, None, sym, ◌∙◌, ap, subst}
use Rattle.ipam_json.proofs.Unique.{body_is_one, edit_is_one}
use Rattle.ipam_json.proofs.Claimed.{one_answer}
use Rattle.ipam_json.specs.BlockItems.{block_item}
use Rattle.ipam_json.specs.AddrItems.{addr_item}
use Rattle.ipam_data.specs.declared.calls.Answered.{Answered}
use Rattle.ipam_data.specs.declared.calls.AddrItem.{AddrItem}
use Rattle.ipam_data.specs.declared.calls.Call.{Call}
use Rattle.ipam_data.specs.declared.calls.Call.TheVariants.{Blocks as ListBlocks, PrefixAddrs, RangeAddrs, ClaimBlocks, ClaimPrefixAddrs, ClaimRangeAddrs}
use Rattle.ipam_data.specs.declared.kinds.Kind.{Kind}
use Rattle.rest_routes.specs.declared.route.Route.{Route}
use Rattle.rest_routes.specs.declared.route.Route.TheVariants.{Many, Single, Within}
use Rattle.rest_routes.specs.declared.route.RowPart.{RowPart}
use Rattle.rest_routes.specs.declared.route.RowPart.TheVariants.{PrefixBlocks, PrefixAddresses, RangeAddresses, PrefixUtilization, RangeUtilization, AggregateUtilization}
use Rattle.rest_routes.specs.declared.route.Method.{Method}
use Rattle.rest_routes.specs.declared.route.Method.TheVariants.{Get, Post, Patch, Delete}
use Rattle.rest_routes.specs.Routes.{method_named}
use Rattle.rest_routes.specs.Requests.{Asked, IsRowsAsked, IsRowAsked, IsAvailableAsked, IsBlocksAsked, IsAddrsAsked, IsPartAsked, IsAskedOf, IsAskedAt, asks_list, asks_draft, asks_edit, asks_available, asks_claim}
use Rattle.rest_routes.specs.Answers.{refused_answer}
use Rattle.rest_routes.specs.Laws.{RequestIsOne}
use Rattle.rest_query.specs.Query.{path_in, query_in}
use Rattle.rest_query.specs.declared.asked.Available.{Available}
use Rattle.rest_query.specs.declared.asked.Available.TheVariants.{Blocks, Addrs}
use Rattle.rest_query.proofs.Unique.{limit_is_one, listing_is_one}
use Rattle.rest_routes.proofs.Routed.{one_route}

one_of_rows : (kind : Kind) (method : Option Method) (query body : List ℕ) (a b : Asked) → IsRowsAsked kind method query body a → IsRowsAsked kind method query body b → a ≡ b
one_of_rows kind (Some Get) query body a b h g = h.2 ∙ ap (asks_list kind query) (listing_is_one kind query h.0 g.0 h.1 g.1) ∙ sym g.2
one_of_rows kind (Some Post) query body a b h g = h.2 ∙ ap asks_draft (body_is_one kind body h.0 g.0 h.1 g.1) ∙ sym g.2
one_of_rows kind (Some Patch) query body a b h g = h ∙ sym g
one_of_rows kind (Some Delete) query body a b h g = h ∙ sym g
one_of_rows kind None query body a b h g = h ∙ sym g

one_of_row : (kind : Kind) (id : ℕ) (method : Option Method) (body : List ℕ) (a b : Asked) → IsRowAsked kind id method body a → IsRowAsked kind id method body b → a ≡ b
one_of_row kind id (Some Get) body a b h g = h ∙ sym g
one_of_row kind id (Some Post) body a b h g = h ∙ sym g
one_of_row kind id (Some Patch) body a b h g = h.2 ∙ ap (asks_edit id) (edit_is_one kind body h.0 g.0 h.1 g.1) ∙ sym g.2
one_of_row kind id (Some Delete) body a b h g = h ∙ sym g
one_of_row kind id None body a b h g = h ∙ sym g

one_available : (available : Available) (call : ℕ → Call) (query : List ℕ) (a b : Asked) → IsAvailableAsked available call query a → IsAvailableAsked available call query b → a ≡ b
one_available available call query a b h g = h.2 ∙ ap (asks_available call) (limit_is_one available query h.0 g.0 h.1 g.1) ∙ sym g.2

one_of_blocks : (id : ℕ) (method : Option Method) (query body : List ℕ) (a b : Asked) → IsBlocksAsked id method query body a → IsBlocksAsked id method query body b → a ≡ b
one_of_blocks id (Some Get) query body a b h g = one_available Blocks (ListBlocks id) query a b h g
one_of_blocks id (Some Post) query body a b h g = h.2 ∙ ap (asks_claim (ClaimBlocks id)) (one_answer block_item body h.0 g.0 h.1 g.1) ∙ sym g.2
one_of_blocks id (Some Patch) query body a b h g = h ∙ sym g
one_of_blocks id (Some Delete) query body a b h g = h ∙ sym g
one_of_blocks id None query body a b h g = h ∙ sym g

one_of_addrs : (list : ℕ → Call) (claims : Answered → List AddrItem → Call) (method : Option Method) (query body : List ℕ) (a b : Asked)
    → IsAddrsAsked list claims method query body a → IsAddrsAsked list claims method query body b → a ≡ b
one_of_addrs list claims (Some Get) query body a b h g = one_available Addrs list query a b h g
one_of_addrs list claims (Some Post) query body a b h g = h.2 ∙ ap (asks_claim claims) (one_answer addr_item body h.0 g.0 h.1 g.1) ∙ sym g.2
one_of_addrs list claims (Some Patch) query body a b h g = h ∙ sym g
one_of_addrs list claims (Some Delete) query body a b h g = h ∙ sym g
one_of_addrs list claims None query body a b h g = h ∙ sym g

one_of_part : (part : RowPart) (id : ℕ) (method : Option Method) (query body : List ℕ) (a b : Asked) → IsPartAsked part id method query body a → IsPartAsked part id method query body b → a ≡ b
one_of_part PrefixBlocks id method query body a b h g = one_of_blocks id method query body a b h g
one_of_part PrefixAddresses id method query body a b h g = one_of_addrs (PrefixAddrs id) (ClaimPrefixAddrs id) method query body a b h g
one_of_part RangeAddresses id method query body a b h g = one_of_addrs (RangeAddrs id) (ClaimRangeAddrs id) method query body a b h g
one_of_part PrefixUtilization id method query body a b h g = h ∙ sym g
one_of_part RangeUtilization id method query body a b h g = h ∙ sym g
one_of_part AggregateUtilization id method query body a b h g = h ∙ sym g

one_of : (route : Route) (method : Option Method) (query body : List ℕ) (a b : Asked) → IsAskedOf route method query body a → IsAskedOf route method query body b → a ≡ b
one_of (Many kind) method query body a b h g = one_of_rows kind method query body a b h g
one_of (Single kind id) method query body a b h g = one_of_row kind id method body a b h g
one_of (Within part id) method query body a b h g = one_of_part part id method query body a b h g

one_at : (route : Option Route) (method query body : List ℕ) (a b : Asked) → IsAskedAt route method query body a → IsAskedAt route method query body b → a ≡ b
one_at None method query body a b h g = h ∙ sym g
one_at (Some route) method query body a b h g = one_of route (method_named method) query body a b h g

pub request_is_one : RequestIsOne
request_is_one = record {
  routes = one_route;
  requests = λ method target body a b h g.
      one_at g.route method (query_in target) body a b
      (subst (λ (route : Option Route). IsAskedAt route method (query_in target) body a) (one_route (path_in target) h.route g.route h.found g.found) h.is) g.is;
  answers = λ target refusal a b h g.
      h.2 ∙ ap (λ (route : Option Route). refused_answer route refusal) (one_route (path_in target) h.0 g.0 h.1 g.1) ∙ sym g.2;
}
