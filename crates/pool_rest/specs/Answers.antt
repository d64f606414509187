-- The answer to a request: that of a reply of the pools, or of a refusal that the bytes decide (RFC 9110 15).
use Rattle.std.specs.Prelude.{◌≡◌, ℕ, List, [], Option, Some, None, codes}
use Rattle.ipam_data.specs.declared.replies.Part.TheVariants.{Head, Body}
use Rattle.ipam_data.specs.declared.replies.Refusal.{Refusal}
use Rattle.ipam_data.specs.declared.replies.Refusal.TheVariants.{BadHead, TooLarge, Coding, NoRoute, Method, BadJson, Field, NotFound, Rule as Breaks, InUse, NoSpace, Limit, Keeper, Memory, Row}
use Rattle.ipam_data.specs.Answers.{refusal_status_of}
use Rattle.ipam_json.specs.Replies.{refusal_text}
use Rattle.number_pools.specs.declared.calls.PoolRefusal.{PoolRefusal}
use Rattle.number_pools.specs.declared.calls.PoolRefusal.TheVariants as pool
use Rattle.number_pools.specs.declared.calls.PoolReply.{PoolReply}
use Rattle.number_pools.specs.declared.calls.PoolReply.TheVariants.{Made, Gone, Claimed, ChangedRange, ChangedMember, OneRange, OneMember, Ranges, Members, Numbers, Page, Refused}
use Rattle.pool_json.specs.declared.bodies.RequestRefusal.{RequestRefusal}
use Rattle.pool_json.specs.declared.bodies.RequestRefusal.TheVariants.{Common, Start, End, Number, Range}
use Rattle.pool_json.specs.declared.replies.Shape.{Shape}
use Rattle.pool_json.specs.Replies.{reply_text, request_refusal_text}
use Rattle.http_session.specs.Talk.{Answer}
use Rattle.http_session.specs.declared.request.Fault.{Fault}
use Rattle.http_session.specs.declared.request.Fault.TheVariants as fault
use Rattle.rest_query.specs.Place.{place_field}
use Rattle.rest_query.specs.Query.{path_in}
use Rattle.pool_rest.specs.declared.route.Route.{Route}
use Rattle.pool_rest.specs.Routes.{HasRoute, methods_text}

-- the media type of each body (RFC 8259 11)
abbrev pub json_type : List ℕ
json_type = codes "application/json"

-- the status of a refusal by the pools
abbrev pub pool_refusal_status : PoolRefusal → ℕ
pool_refusal_status (pool.Absent n) = 404
pool_refusal_status (pool.NameTaken n) = 400
pool_refusal_status pool.Bounds = 400
pool_refusal_status (pool.InUse n) = 409
pool_refusal_status (pool.NoSpace n) = 409
pool_refusal_status (pool.Outside n) = 400
pool_refusal_status (pool.Taken n id) = 409
pool_refusal_status (pool.Repeated n) = 409
pool_refusal_status (pool.Limit which n) = 507
pool_refusal_status pool.Keeper = 503
pool_refusal_status pool.Memory = 500

-- the status of a reply
abbrev pub status_of : PoolReply → ℕ
status_of (Made range) = 201
status_of Gone = 204
status_of (Claimed rows) = 201
status_of (ChangedRange range) = 200
status_of (ChangedMember row) = 200
status_of (OneRange range) = 200
status_of (OneMember row) = 200
status_of (Ranges rows) = 200
status_of (Members rows) = 200
status_of (Numbers numbers) = 200
status_of (Page query count members) = 200
status_of (Refused refusal) = pool_refusal_status refusal

-- the answer of a reply of the pools, which is at a place
abbrev pub reply_answer : Shape → PoolReply → ℕ → Answer
reply_answer shape reply place =
    record { status = status_of reply; allow = []; field = Some (place_field place); media = json_type; body = reply_text shape reply }

-- the status of a refusal before the pools are asked
abbrev pub request_status : RequestRefusal → ℕ
request_status (Common refusal) = refusal_status_of refusal
request_status Start = 400
request_status End = 400
request_status (Number kind) = 400
request_status (Range kind) = 400

-- the methods of a route that does not have the one that was asked for
abbrev pub route_methods : Option Route → List ℕ
route_methods None = []
route_methods (Some route) = methods_text route

-- the `Allow` field, which is sent for the refusal of a method alone
abbrev pub common_allow : Option Route → Refusal → List ℕ
common_allow route BadHead = []
common_allow route (TooLarge part) = []
common_allow route Coding = []
common_allow route NoRoute = []
common_allow route Method = route_methods route
common_allow route BadJson = []
common_allow route (Field member) = []
common_allow route (NotFound kind n) = []
common_allow route (Breaks rule) = []
common_allow route (InUse kind n) = []
common_allow route (NoSpace n) = []
common_allow route (Limit which n) = []
common_allow route Keeper = []
common_allow route Memory = []
common_allow route (Row n why) = []

abbrev pub allow_of : Option Route → RequestRefusal → List ℕ
allow_of route (Common refusal) = common_allow route refusal
allow_of route Start = []
allow_of route End = []
allow_of route (Number kind) = []
allow_of route (Range kind) = []

-- the answer of a refusal that the bytes decide, on this route: it has no place
abbrev pub refused_answer : Option Route → RequestRefusal → Answer
refused_answer route refusal =
    record { status = request_status refusal; allow = allow_of route refusal; field = None; media = json_type; body = request_refusal_text refusal }

-- the answer of a refusal that the bytes decide, to a request of this target
abbrev pub IsRefusedAnswer : List ℕ → RequestRefusal → Answer → Type 0
IsRefusedAnswer target refusal answer = (route : Option Route) × HasRoute (path_in target) route × (answer ≡ refused_answer route refusal)

-- the refusal of bytes that are in the place of a request and are none
abbrev pub refusal_of : Fault → Refusal
refusal_of fault.BadHead = BadHead
refusal_of fault.LargeHead = TooLarge Head
refusal_of fault.LargeBody = TooLarge Body
refusal_of fault.Coding = Coding

-- its answer: it has no route and no place
abbrev pub framing_answer : Fault → Answer
framing_answer why =
    record { status = refusal_status_of (refusal_of why); allow = []; field = None; media = json_type; body = refusal_text (refusal_of why) }

-- what bytes that are refused for this may be answered
abbrev pub IsFramingAnswer : Fault → Answer → Type 0
IsFramingAnswer why answer = answer ≡ framing_answer why
