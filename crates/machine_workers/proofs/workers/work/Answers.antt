use Rattle.std.proofs.Common.{rules, refl}
use Rattle.machine_workers.proofs.workers.work.Goals as goal

pub returns : goal.returns
returns g c =
    record {
      before = c.in-Some.seat;
      after = c.serve_seat.result;
      had = search rules;
      has = refl;
      served = c.serve_seat.ensures.served;
      none_left = c.serve_seat.ensures.none_left;
      later = c.serve_seat.ensures.later;
    }
