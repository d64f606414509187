-- What a request asks of a snapshot: the path comes first, then the method, then the number of changes that are asked for at least, and
-- then the parameters of a list.
use Rattle.std.specs.Prelude.{◌≡◌, ◌≢◌, ℕ, ◌<◌, Bool, true, false, List, codes, decimal, Option, Some, None, Ok, Err}
use Rattle.http_session.specs.Requests.{Framed}
use Rattle.ipam_data.specs.declared.kinds.Kind.{Kind}
use Rattle.ipam_data.specs.declared.kinds.Kind.TheVariants.{Vrfs, Prefixes}
use Rattle.rest_query.specs.Query.{parameter, path_in, query_in}
use Rattle.rest_routes.specs.declared.route.Method.{Method}
use Rattle.rest_routes.specs.declared.route.Method.TheVariants as method
use Rattle.rest_routes.specs.declared.route.Route.{Route}
use Rattle.rest_routes.specs.declared.route.Route.TheVariants.{Many, Single, Within}
use Rattle.rest_routes.specs.Requests.{Asked, IsRequest, IsWellMade}
use Rattle.rest_routes.specs.Routes.{HasRoute, method_named}
use Rattle.snapshot_routes.specs.declared.question.Question.{Question}
use Rattle.snapshot_routes.specs.declared.question.Question.TheVariants.{Reads, Refused}
use Rattle.snapshot_routes.specs.declared.question.Unread.TheVariants.{NoRoute, Method as NoMethod, Least, Query}

-- the kinds of which a snapshot has the rows
abbrev pub is_kept : Kind → Bool
is_kept Vrfs = true
is_kept Prefixes = true
is_kept other = false

-- the paths of a snapshot: the rows of such a kind, and each of these rows
abbrev pub is_served : Option Route → Bool
is_served None = false
is_served (Some (Many kind)) = is_kept kind
is_served (Some (Single kind id)) = is_kept kind
is_served (Some (Within part id)) = false

-- so many changes are asked for at least: a number of at most 19 digits, in decimal, without a leading zero; an absent one is 0, and
-- `None` is one that is malformed
abbrev pub IsLeast : Option (List ℕ) → Option ℕ → Type 0
IsLeast None least = least ≡ Some 0
IsLeast (Some text) None = (n : ℕ) → n < 10000000000000000000 → text ≢ decimal n
IsLeast (Some text) (Some n) = (text ≡ decimal n) × (n < 10000000000000000000)

-- what the register would be asked for, after so many changes at least
abbrev pub asked_after : ℕ → Asked → Question
asked_after least (Ok asked) = Reads asked.0 asked.1 least
asked_after least (Err refusal) = Refused (Query refusal)

abbrev pub IsAskedAfter : Option ℕ → Framed → Question → Type 0
IsAskedAfter None request question = question ≡ Refused Least
IsAskedAfter (Some least) request question =
    (asked : Asked) × IsRequest request.method request.target request.body asked × (question ≡ asked_after least asked)

-- what a GET asks for
abbrev pub IsAskedByGet : Framed → Question → Type 0
IsAskedByGet request question =
    (least : Option ℕ) × IsLeast (parameter (query_in request.target) (codes "least")) least × IsAskedAfter least request question

-- no other method is served
abbrev pub IsAskedBy : Option Method → Framed → Question → Type 0
IsAskedBy (Some method.Get) request question = IsAskedByGet request question
IsAskedBy (Some method.Post) request question = question ≡ Refused NoMethod
IsAskedBy (Some method.Patch) request question = question ≡ Refused NoMethod
IsAskedBy (Some method.Delete) request question = question ≡ Refused NoMethod
IsAskedBy None request question = question ≡ Refused NoMethod

-- no other path is
abbrev pub IsAskedAt : Bool → Framed → Question → Type 0
IsAskedAt true request question = IsAskedBy (method_named request.method) request question
IsAskedAt false request question = question ≡ Refused NoRoute

-- what a request asks for
pub record IsQuestion (request : Framed) (question : Question) : Type 0 where
  pub route : Option Route
  pub found : HasRoute (path_in request.target) route
  pub is : IsAskedAt (is_served route) request question

-- the filter of a list is of its kind
abbrev pub IsWellAsked : Question → Type 0
IsWellAsked (Reads call links least) = IsWellMade call
IsWellAsked (Refused why) = Unit {0}
