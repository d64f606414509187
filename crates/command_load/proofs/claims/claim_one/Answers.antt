use Rattle.command_load.proofs.Called.{claim_noted}
use Rattle.command_load.proofs.claims.claim_one.Goals as goal

pub returns-clause-noted : goal.returns-clause-noted
returns-clause-noted g c =
    claim_noted c.args.seat c.call-seat.result.0 c.in-Some.call c.call-seat.result.1 c.call-seat.result.2 c.claimed.result c.of_v4-got.result c.call-seat.ensures c.in-Some.ensures c.claimed.ensures c.of_v4-got.ensures
