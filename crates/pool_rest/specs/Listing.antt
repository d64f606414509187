-- Which page of the members of a kind a query asks for: the first of number, range, limit and offset that is malformed is answered. Of several
-- parameters with one name the last counts, and one that is not asked for counts for nothing.
use Rattle.std.specs.Prelude.{◌≡◌, ℕ, List, Option, Some, None, Result, Ok, Err}
use Rattle.ipam_data.specs.declared.replies.FieldName.TheVariants.{Name}
use Rattle.ipam_data.specs.declared.replies.Refusal.{Refusal}
use Rattle.rest_query.specs.declared.asked.Available.TheVariants.{Addrs}
use Rattle.rest_query.specs.Lists.{IsLimitAsked, IsOffsetAsked}
use Rattle.rest_query.specs.Query.{parameter, value_in}
use Rattle.rest_query.specs.Readings.{IsRowTest}
use Rattle.number_pools.specs.declared.rows.PoolKind.{PoolKind}
use Rattle.number_pools.specs.declared.calls.MemberQuery.{MemberQuery}
use Rattle.pool_json.specs.declared.bodies.RequestRefusal.{RequestRefusal}
use Rattle.pool_json.specs.declared.bodies.RequestRefusal.TheVariants.{Common, Number, Range}
use Rattle.pool_json.specs.Pages.{range_name}
use Rattle.pool_json.specs.Records.{number_name}

-- what is made of a number, if there is one
abbrev pub made_of : (ℕ → MemberQuery) → Result ℕ Refusal → Result MemberQuery RequestRefusal
made_of make (Ok n) = Ok (make n)
made_of make (Err refusal) = Err (Common refusal)

-- the offset comes last
abbrev pub IsMoved : (ℕ → MemberQuery) → List ℕ → Result MemberQuery RequestRefusal → Type 0
IsMoved make query answer = (offset : Result ℕ Refusal) × IsOffsetAsked query offset × (answer ≡ made_of make offset)

-- after the limit, which is that of a list of available addresses if none is given
abbrev pub IsLimited : (ℕ → ℕ → MemberQuery) → List ℕ → Result ℕ Refusal → Result MemberQuery RequestRefusal → Type 0
IsLimited make query (Ok limit) answer = IsMoved (make limit) query answer
IsLimited make query (Err refusal) answer = answer ≡ Err (Common refusal)

abbrev pub IsPaged : (ℕ → ℕ → MemberQuery) → List ℕ → Result MemberQuery RequestRefusal → Type 0
IsPaged make query answer = (limit : Result ℕ Refusal) × IsLimitAsked Addrs query limit × IsLimited make query limit answer

-- after the number and the range, each a number from 1 to 4294967295 if it is given
abbrev pub IsTested : PoolKind → List ℕ → Option (Option ℕ) → Option (Option ℕ) → Result MemberQuery RequestRefusal → Type 0
IsTested kind query None range answer = answer ≡ Err (Number kind)
IsTested kind query (Some number) None answer = answer ≡ Err (Range kind)
IsTested kind query (Some number) (Some range) answer =
    IsPaged (λ limit offset. record { number = number; range = range; name = value_in query Name; limit = limit; offset = offset }) query answer

-- what the query asks for
pub record IsQuery (kind : PoolKind) (query : List ℕ) (answer : Result MemberQuery RequestRefusal) : Type 0 where
  pub number : Option (Option ℕ)
  pub range : Option (Option ℕ)
  pub numbered : IsRowTest (parameter query (number_name kind)) number
  pub ranged : IsRowTest (parameter query (range_name kind)) range
  pub is : IsTested kind query number range answer
