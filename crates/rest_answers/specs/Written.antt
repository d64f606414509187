-- A reply written as an answer, with a place or without one.
use Rattle.std.specs.Prelude.{◌≡◌, ◌≤◌, ℕ, Bool, true, false, List, [], Option, Some, None}
use Rattle.std.specs.Io.KnownBytes.{Appends}
use Rattle.ipam_edge.specs.Faults.{Rose}
use Rattle.ipam_edge.specs.Writing.{AppendsLess}
use Rattle.http_session.specs.Talk.{Answer, framed_text}
use Rattle.ipam_data.specs.declared.replies.Refusal.{Refusal}
use Rattle.ipam_data.specs.declared.replies.Refusal.TheVariants.{Method}
use Rattle.ipam_data.specs.declared.replies.Reply.{Reply}
use Rattle.ipam_data.specs.declared.replies.Reply.TheVariants.{Refused}
use Rattle.ipam_data.specs.Answers.{status_of}
use Rattle.ipam_json.specs.declared.replies.Links.{Links}
use Rattle.ipam_json.specs.Replies.{reply_text}
use Rattle.rest_query.specs.Query.{path_in}
use Rattle.rest_routes.specs.declared.route.Route.{Route}
use Rattle.rest_routes.specs.Routes.{HasRoute}
use Rattle.rest_routes.specs.Answers.{json_type, reply_answer, route_methods}
use Rattle.rest_answers.specs.declared.put.PutReply.{PutReply}
use Rattle.rest_answers.specs.declared.put.PutReply.TheVariants.{Whole, SinkFault, Memory}

-- the refusal of a method
abbrev pub is_method_refusal : Refusal → Bool
is_method_refusal Method = true
is_method_refusal other = false

-- the reply refuses the method
abbrev pub refuses_method : Reply → Bool
refuses_method (Refused refusal) = is_method_refusal refusal
refuses_method other = false

-- an answer without its place
abbrev pub unplaced : Answer → Answer
unplaced answer = record { status = answer.status; allow = answer.allow; field = None; media = answer.media; body = answer.body }

-- what `Allow` says: the methods of the path of this target, if the method is refused, and else nothing
abbrev pub IsAllow : Bool → List ℕ → List ℕ → Type 0
IsAllow true target allow = (route : Option Route) × HasRoute (path_in target) route × (allow ≡ route_methods route)
IsAllow false target allow = allow ≡ []

-- the answer of a reply that has no place
abbrev pub IsUnplacedAnswer : List ℕ → Reply → Links → Answer → Type 0
IsUnplacedAnswer target reply links answer =
    (allow : List ℕ) × IsAllow (refuses_method reply) target allow
    × (answer ≡ record { status = status_of reply; allow = allow; field = None; media = json_type; body = reply_text reply links })

-- the answer of a reply to a request of this target: of one of the register, which has a place, or of a refusal that the bytes decide
abbrev pub IsReplyAnswer : List ℕ → Reply → Links → Option ℕ → Answer → Type 0
IsReplyAnswer target reply links (Some place) answer = answer ≡ reply_answer reply links place
IsReplyAnswer target reply links None answer = IsUnplacedAnswer target reply links answer

-- the whole text was written, or a shorter prefix of it, or nothing
abbrev pub IsPutAnswer : Option (List ℕ) → Option (List ℕ) → PutReply → List ℕ → Type 0
IsPutAnswer old new Whole text = Appends old new text
IsPutAnswer old new SinkFault text = AppendsLess old new text
IsPutAnswer old new Memory text = new ≡ old

-- a reply was written as its answer, which closes the connection or not; or nothing was
abbrev pub IsPutReply : Option (List ℕ) → Option (List ℕ) → PutReply → List ℕ → Reply → Links → Option ℕ → Bool → Type 0
IsPutReply old new Whole target reply links place close =
    (answer : Answer) × IsReplyAnswer target reply links place answer × Appends old new (framed_text answer close false)
IsPutReply old new SinkFault target reply links place close =
    (answer : Answer) × IsReplyAnswer target reply links place answer × AppendsLess old new (framed_text answer close false)
IsPutReply old new Memory target reply links place close = new ≡ old

-- a fault is returned only if the sink's count rose, and with no other end
abbrev pub HasPutCause : ℕ → ℕ → PutReply → Type 0
HasPutCause old new Whole = new ≡ old
HasPutCause old new SinkFault = (old ≤ new) × Rose old new
HasPutCause old new Memory = new ≡ old
