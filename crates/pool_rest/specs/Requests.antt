-- What a request asks of number pools: the route comes first, then the method, then the body.
use Rattle.std.specs.Prelude.{◌≡◌, ℕ, Bool, true, false, List, Option, Some, None, Result, Ok, Err}
use Rattle.ipam_data.specs.declared.calls.Answered.{Answered}
use Rattle.ipam_data.specs.declared.calls.Answered.TheVariants.{AsOne, AsList}
use Rattle.ipam_data.specs.declared.replies.Refusal.{Refusal}
use Rattle.ipam_data.specs.declared.replies.Refusal.TheVariants.{NoRoute, Method as NoMethod}
use Rattle.number_pools.specs.declared.rows.PoolKind.{PoolKind}
use Rattle.number_pools.specs.declared.calls.Chosen.{Chosen}
use Rattle.number_pools.specs.declared.calls.MemberQuery.{MemberQuery}
use Rattle.number_pools.specs.declared.calls.PoolCall.{PoolCall}
use Rattle.number_pools.specs.declared.calls.PoolCall.TheVariants as call
use Rattle.pool_json.specs.declared.bodies.RangeDraft.{RangeDraft}
use Rattle.pool_json.specs.declared.bodies.RequestRefusal.{RequestRefusal}
use Rattle.pool_json.specs.declared.bodies.RequestRefusal.TheVariants.{Common}
use Rattle.pool_json.specs.declared.replies.Shape.{Shape}
use Rattle.pool_json.specs.Bodies.{IsClaim, IsRangeBody}
use Rattle.pool_json.specs.declared.edits.RangeEdit.{RangeEdit}
use Rattle.pool_json.specs.Edits.{IsMemberEdit, IsRangeEdit}
use Rattle.pool_json.specs.Records.{IsRecord}
use Rattle.rest_query.specs.declared.asked.Available.TheVariants.{Addrs}
use Rattle.rest_query.specs.Lists.{IsLimitAsked}
use Rattle.rest_query.specs.Query.{path_in, query_in}
use Rattle.pool_rest.specs.declared.route.Route.{Route}
use Rattle.pool_rest.specs.declared.route.Route.TheVariants.{Many, Single, Within}
use Rattle.pool_rest.specs.declared.route.Base.{Base}
use Rattle.pool_rest.specs.declared.route.Base.TheVariants.{Ranges, Members}
use Rattle.pool_rest.specs.declared.route.RangePart.{RangePart}
use Rattle.pool_rest.specs.declared.route.RangePart.TheVariants.{Free, Given}
use Rattle.pool_rest.specs.declared.route.Method.{Method}
use Rattle.pool_rest.specs.declared.route.Method.TheVariants.{Get, Post, Patch, Delete}
use Rattle.pool_rest.specs.Listing.{IsQuery}
use Rattle.pool_rest.specs.Routes.{HasRoute, method_named}

-- what a request asks for: a call and how its reply is written, or why it is refused before the pools
abbrev pub Asked : Type 0
Asked = Result (PoolCall × Shape) RequestRefusal

-- how the reply to a call is written: for its kind, and as a list if the call is one of items that were given as one
abbrev pub shape_of : PoolCall → Shape
shape_of (call.AddRange kind name first last) = record { kind = kind; list = false }
shape_of (call.CutRange kind id) = record { kind = kind; list = false }
shape_of (call.Ranges kind) = record { kind = kind; list = false }
shape_of (call.Members kind id) = record { kind = kind; list = false }
shape_of (call.CutMember kind id) = record { kind = kind; list = false }
shape_of (call.Available kind id limit) = record { kind = kind; list = false }
shape_of (call.Claim kind id list names) = record { kind = kind; list = list }
shape_of (call.Record kind id list items) = record { kind = kind; list = list }
shape_of (call.OneRange kind id) = record { kind = kind; list = false }
shape_of (call.OneMember kind id) = record { kind = kind; list = false }
shape_of (call.EditRange kind id name first last) = record { kind = kind; list = false }
shape_of (call.EditMember kind id name) = record { kind = kind; list = false }
shape_of (call.Page kind query) = record { kind = kind; list = false }

abbrev pub asks : PoolCall → Asked
asks c = Ok (c, shape_of c)

abbrev pub no_method : Asked
no_method = Err (Common NoMethod)

-- one more range, if the body gives one
abbrev pub asks_range : PoolKind → Result RangeDraft RequestRefusal → Asked
asks_range kind (Ok draft) = asks (call.AddRange kind draft.name draft.first draft.last)
asks_range kind (Err refusal) = Err refusal

abbrev pub IsRangeAsked : PoolKind → List ℕ → Asked → Type 0
IsRangeAsked kind body asked = (draft : Result RangeDraft RequestRefusal) × IsRangeBody body draft × (asked ≡ asks_range kind draft)

-- what a method asks of the ranges of a kind, with this body
abbrev pub IsRangesAsked : PoolKind → Option Method → List ℕ → Asked → Type 0
IsRangesAsked kind (Some Get) body asked = asked ≡ asks (call.Ranges kind)
IsRangesAsked kind (Some Post) body asked = IsRangeAsked kind body asked
IsRangesAsked kind (Some Patch) body asked = asked ≡ no_method
IsRangesAsked kind (Some Delete) body asked = asked ≡ no_method
IsRangesAsked kind None body asked = asked ≡ no_method

-- a page of the members of a kind, if the query gives one
abbrev pub asks_page : PoolKind → Result MemberQuery RequestRefusal → Asked
asks_page kind (Ok query) = asks (call.Page kind query)
asks_page kind (Err refusal) = Err refusal

abbrev pub IsPageAsked : PoolKind → List ℕ → Asked → Type 0
IsPageAsked kind query asked = (page : Result MemberQuery RequestRefusal) × IsQuery kind query page × (asked ≡ asks_page kind page)

-- what a method asks of the members of a kind, with this query
abbrev pub IsMembersAsked : PoolKind → Option Method → List ℕ → Asked → Type 0
IsMembersAsked kind (Some Get) query asked = IsPageAsked kind query asked
IsMembersAsked kind (Some Post) query asked = asked ≡ no_method
IsMembersAsked kind (Some Patch) query asked = asked ≡ no_method
IsMembersAsked kind (Some Delete) query asked = asked ≡ no_method
IsMembersAsked kind None query asked = asked ≡ no_method

-- what a method asks of all ranges of a kind, or of all members, with this query and this body
abbrev pub IsManyAsked : Base → Option Method → List ℕ → List ℕ → Asked → Type 0
IsManyAsked (Ranges kind) method query body asked = IsRangesAsked kind method body asked
IsManyAsked (Members kind) method query body asked = IsMembersAsked kind method query asked

-- a range or a member is cut
abbrev pub cut_call : Base → ℕ → PoolCall
cut_call (Ranges kind) id = call.CutRange kind id
cut_call (Members kind) id = call.CutMember kind id

-- or is read
abbrev pub one_call : Base → ℕ → PoolCall
one_call (Ranges kind) id = call.OneRange kind id
one_call (Members kind) id = call.OneMember kind id

-- or is edited, if the body says how
abbrev pub asks_range_edit : PoolKind → ℕ → Result RangeEdit RequestRefusal → Asked
asks_range_edit kind id (Ok edit) = asks (call.EditRange kind id edit.name edit.first edit.last)
asks_range_edit kind id (Err refusal) = Err refusal

abbrev pub asks_member_edit : PoolKind → ℕ → Result (Option (List ℕ)) RequestRefusal → Asked
asks_member_edit kind id (Ok name) = asks (call.EditMember kind id name)
asks_member_edit kind id (Err refusal) = Err refusal

abbrev pub IsEditAsked : Base → ℕ → List ℕ → Asked → Type 0
IsEditAsked (Ranges kind) id body asked =
    (edit : Result RangeEdit RequestRefusal) × IsRangeEdit body edit × (asked ≡ asks_range_edit kind id edit)
IsEditAsked (Members kind) id body asked =
    (name : Result (Option (List ℕ)) RequestRefusal) × IsMemberEdit kind body name × (asked ≡ asks_member_edit kind id name)

-- what a method asks of a range or a member, with this body
abbrev pub IsOneAsked : Base → ℕ → Option Method → List ℕ → Asked → Type 0
IsOneAsked base id (Some Get) body asked = asked ≡ asks (one_call base id)
IsOneAsked base id (Some Post) body asked = asked ≡ no_method
IsOneAsked base id (Some Patch) body asked = IsEditAsked base id body asked
IsOneAsked base id (Some Delete) body asked = asked ≡ asks (cut_call base id)
IsOneAsked base id None body asked = asked ≡ no_method

-- the free numbers, if the query gives how many
abbrev pub asks_free : PoolKind → ℕ → Result ℕ Refusal → Asked
asks_free kind id (Ok limit) = asks (call.Available kind id limit)
asks_free kind id (Err refusal) = Err (Common refusal)

-- if it gives none, the limit is that of a list of available addresses
abbrev pub IsFreeListed : PoolKind → ℕ → List ℕ → Asked → Type 0
IsFreeListed kind id query asked = (limit : Result ℕ Refusal) × IsLimitAsked Addrs query limit × (asked ≡ asks_free kind id limit)

-- whether a claim was given as a list
abbrev pub is_list : Answered → Bool
is_list AsOne = false
is_list AsList = true

-- a claim, if the body gives its names
abbrev pub asks_claim : PoolKind → ℕ → Result (Answered × List (List ℕ)) Refusal → Asked
asks_claim kind id (Ok claim) = asks (call.Claim kind id (is_list claim.0) claim.1)
asks_claim kind id (Err refusal) = Err (Common refusal)

abbrev pub IsClaimAsked : PoolKind → ℕ → List ℕ → Asked → Type 0
IsClaimAsked kind id body asked =
    (claim : Result (Answered × List (List ℕ)) Refusal) × IsClaim kind body claim × (asked ≡ asks_claim kind id claim)

-- what a method asks of the free numbers of a range, with this query and this body
abbrev pub IsFreeAsked : PoolKind → ℕ → Option Method → List ℕ → List ℕ → Asked → Type 0
IsFreeAsked kind id (Some Get) query body asked = IsFreeListed kind id query asked
IsFreeAsked kind id (Some Post) query body asked = IsClaimAsked kind id body asked
IsFreeAsked kind id (Some Patch) query body asked = asked ≡ no_method
IsFreeAsked kind id (Some Delete) query body asked = asked ≡ no_method
IsFreeAsked kind id None query body asked = asked ≡ no_method

-- chosen numbers are recorded, if the body gives them
abbrev pub asks_record : PoolKind → ℕ → Result (Answered × List Chosen) RequestRefusal → Asked
asks_record kind id (Ok chosen) = asks (call.Record kind id (is_list chosen.0) chosen.1)
asks_record kind id (Err refusal) = Err refusal

abbrev pub IsRecordAsked : PoolKind → ℕ → List ℕ → Asked → Type 0
IsRecordAsked kind id body asked =
    (chosen : Result (Answered × List Chosen) RequestRefusal) × IsRecord kind body chosen × (asked ≡ asks_record kind id chosen)

-- what a method asks of the members of a range, with this body
abbrev pub IsGivenAsked : PoolKind → ℕ → Option Method → List ℕ → Asked → Type 0
IsGivenAsked kind id (Some Get) body asked = asked ≡ asks (call.Members kind id)
IsGivenAsked kind id (Some Post) body asked = IsRecordAsked kind id body asked
IsGivenAsked kind id (Some Patch) body asked = asked ≡ no_method
IsGivenAsked kind id (Some Delete) body asked = asked ≡ no_method
IsGivenAsked kind id None body asked = asked ≡ no_method

-- what a method asks of a part of a range
abbrev pub IsPartAsked : RangePart → PoolKind → ℕ → Option Method → List ℕ → List ℕ → Asked → Type 0
IsPartAsked Free kind id method query body asked = IsFreeAsked kind id method query body asked
IsPartAsked Given kind id method query body asked = IsGivenAsked kind id method body asked

-- what a method asks of a route, with this query and this body
abbrev pub IsAskedOf : Route → Option Method → List ℕ → List ℕ → Asked → Type 0
IsAskedOf (Many base) method query body asked = IsManyAsked base method query body asked
IsAskedOf (Single base id) method query body asked = IsOneAsked base id method body asked
IsAskedOf (Within part kind id) method query body asked = IsPartAsked part kind id method query body asked

-- a path without a route is refused whatever the method, the query and the body
abbrev pub IsAskedAt : Option Route → List ℕ → List ℕ → List ℕ → Asked → Type 0
IsAskedAt None method query body asked = asked ≡ Err (Common NoRoute)
IsAskedAt (Some route) method query body asked = IsAskedOf route (method_named method) query body asked

-- what a request of this method, target and body asks for: the target is cut at its first question mark (RFC 3986 3.4)
pub record IsRequest (method target body : List ℕ) (asked : Asked) : Type 0 where
  pub route : Option Route
  pub found : HasRoute (path_in target) route
  pub is : IsAskedAt route method (query_in target) body asked
