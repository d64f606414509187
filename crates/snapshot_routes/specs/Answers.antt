-- The answers that a snapshot alone gives. All others are those of the register.
use Rattle.std.specs.Prelude.{ℕ, List, [], ◌∷◌, ◌++◌, Some, None, codes, decimal}
use Rattle.serde_json.specs.Data.{Data, object, string}
use Rattle.serde_json.specs.Written.{compact_text}
use Rattle.http_session.specs.Talk.{Answer}
use Rattle.ipam_data.specs.declared.replies.Refusal.{Refusal}
use Rattle.ipam_data.specs.declared.replies.Refusal.TheVariants as common
use Rattle.ipam_data.specs.Answers.{refusal_status_of}
use Rattle.ipam_json.specs.Replies.{refusal_text}
use Rattle.ipam_json.specs.Values.{members}
use Rattle.rest_query.specs.Place.{place_field}
use Rattle.rest_routes.specs.Answers.{json_type}
use Rattle.snapshot_routes.specs.declared.question.Unread.{Unread}
use Rattle.snapshot_routes.specs.declared.question.Unread.TheVariants.{NoRoute, Method, Least, Query}

-- a code and words for it
abbrev pub words_data : List ℕ → List ℕ → Data
words_data code detail = object (members ((codes "code", string code) ∷ (codes "detail", string detail) ∷ []))

-- an answer without a place
abbrev pub bare_answer : ℕ → List ℕ → List ℕ → Answer
bare_answer status allow body = record { status = status; allow = allow; field = None; media = json_type; body = body }

-- `least` is malformed
abbrev pub least_answer : Answer
least_answer = bare_answer 400 [] (compact_text (words_data (codes "field") (codes "least is missing or malformed")))

-- another parameter is
abbrev pub query_answer : Refusal → Answer
query_answer refusal = bare_answer (refusal_status_of refusal) [] (refusal_text refusal)

-- the answer to a request for which nothing is read. A path of a snapshot has the one method GET
abbrev pub unread_answer : Unread → Answer
unread_answer NoRoute = bare_answer (refusal_status_of common.NoRoute) [] (refusal_text common.NoRoute)
unread_answer Method = bare_answer (refusal_status_of common.Method) (codes "GET") (refusal_text common.Method)
unread_answer Least = least_answer
unread_answer (Query refusal) = query_answer refusal

-- fewer changes are published than are asked for: so many
abbrev pub behind_answer : ℕ → Answer
behind_answer published = record {
  status = 503;
  allow = [];
  field = Some (place_field published);
  media = json_type;
  body = compact_text (words_data (codes "behind") (codes "published up to " ++ decimal published));
}
