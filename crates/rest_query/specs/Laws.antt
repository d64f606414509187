-- Laws that make the definitions mean something.
use Rattle.std.specs.Prelude.{◌≡◌, ℕ, List, Result}
use Rattle.ipam_data.specs.declared.kinds.Kind.{Kind}
use Rattle.ipam_data.specs.declared.replies.Refusal.{Refusal}
use Rattle.rest_query.specs.declared.asked.Available.{Available}
use Rattle.rest_query.specs.declared.asked.Listing.{Listing}
use Rattle.rest_query.specs.Lists.{IsListing, IsLimitAsked}

-- a query asks for one thing
abbrev pub ListingIsOne : Type 0
ListingIsOne = (kind : Kind) (query : List ℕ) (a b : Result Listing Refusal) → IsListing kind query a → IsListing kind query b → a ≡ b

-- and so does that of a list of available things
abbrev pub LimitIsOne : Type 0
LimitIsOne = (available : Available) (query : List ℕ) (a b : Result ℕ Refusal) → IsLimitAsked available query a → IsLimitAsked available query b → a ≡ b
