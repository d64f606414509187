use Rattle.rest_query.proofs.Unique.{listing_is_one}
use Rattle.rest_query.proofs.laws.listing_is_one.Goals as goal

pub returns : goal.returns
returns c = listing_is_one
