use Rattle.std.proofs.Common.{rules, refl}
use Rattle.command_mirror.proofs.readers.read_lane.Goals as goal

pub returns : goal.returns
returns g c =
    record {
      before = c.in-Some.look;
      after = c.serve_lane.result;
      had = search rules;
      has = refl;
      served = c.serve_lane.ensures.served;
      none_left = c.serve_lane.ensures.none_left;
      later = c.serve_lane.ensures.later;
    }
