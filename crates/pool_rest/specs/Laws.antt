-- Laws that make the definitions mean something.
use Rattle.std.specs.Prelude.{◌≡◌, List, ℕ, Option}
use Rattle.http_session.specs.Talk.{Answer}
use Rattle.pool_json.specs.declared.bodies.RequestRefusal.{RequestRefusal}
use Rattle.pool_rest.specs.declared.route.Route.{Route}
use Rattle.pool_rest.specs.Routes.{HasRoute}
use Rattle.pool_rest.specs.Requests.{Asked, IsRequest}
use Rattle.pool_rest.specs.Answers.{IsRefusedAnswer}

-- a path has one route or none, a request asks for one thing, and a refusal of it has one answer
pub record RequestIsOne : Type 0 where
  pub routes : (path : List ℕ) (a b : Option Route) → HasRoute path a → HasRoute path b → a ≡ b
  pub requests : (method target body : List ℕ) (a b : Asked) → IsRequest method target body a → IsRequest method target body b → a ≡ b
  pub answers : (target : List ℕ) (refusal : RequestRefusal) (a b : Answer) → IsRefusedAnswer target refusal a → IsRefusedAnswer target refusal b → a ≡ b
