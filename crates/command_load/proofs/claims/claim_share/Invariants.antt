use Rattle.std.proofs.Common.{◌≡◌}
use Rattle.history_lock.specs.Seats.{IsSameSeat}
use Rattle.command_load.specs.Hired.{Notes, last_of_v4}
use Rattle.command_load.proofs.claims.claim_share.Given as goal

abbrev pub invariant-loop : goal.invariant-loop
invariant-loop g l =
    record {
      same : IsSameSeat l.fn.seat l.seat;
      count : l.tally.claimed ≡ l.counter;
      noted : Notes l.fn.seat 0 last_of_v4 0 → Notes l.seat l.tally.claimed l.tally.least l.tally.greatest;
    }
