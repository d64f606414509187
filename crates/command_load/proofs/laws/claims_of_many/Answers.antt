use Rattle.command_load.proofs.Histories.{history_leads, place_says, shares_add_up, next_place, places_stay}
use Rattle.command_load.proofs.laws.claims_of_many.Goals as goal

pub returns : goal.returns
returns c = record { state = history_leads; address = place_says; shares = shares_add_up; next = next_place; stay = places_stay }
