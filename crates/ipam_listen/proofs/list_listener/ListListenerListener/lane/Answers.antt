use Rattle.std.proofs.Common.{◌++◌, ap, ◌∙◌}
use Rattle.std.specs.Option.{option_to_list}
use Rattle.ipam_listen.proofs.Waiting.{first_of_popped}
use Rattle.ipam_listen.proofs.list_listener.ListListenerListener.lane.Goals as goal

pub returns-in-Some-clause-handed : goal.returns-in-Some-clause-handed
returns-in-Some-clause-handed c =
    record {
      first = c.in-Some.lane;
      waiting = first_of_popped c.args.self.now.waiting.items c.pop.new.self.items c.in-Some.lane (c.pop.ensures.items ∙ ap (λ r. c.pop.new.self.items ++ option_to_list r) c.in-Some.is);
      lane_is = c.with_accepts.ensures;
    }
