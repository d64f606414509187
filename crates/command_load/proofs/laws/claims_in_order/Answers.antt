use Rattle.command_load.proofs.Steps.{made_first, claim_next, claims_lead}
use Rattle.command_load.proofs.ClaimFigures.{figure_of_claims}
use Rattle.command_load.proofs.laws.claims_in_order.Goals as goal

pub returns : goal.returns
returns c = record { made = made_first; next = claim_next; behind = claims_lead; figure = figure_of_claims }
