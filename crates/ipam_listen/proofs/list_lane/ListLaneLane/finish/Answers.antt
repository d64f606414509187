use Rattle.std.proofs.Common.{◌++◌, ap, ◌∙◌, Some, List}
use Rattle.std.specs.Option.{option_to_list}
use Rattle.ipam_listen.specs.Connections.{Connection}
use Rattle.ipam_listen.proofs.Told.{taken_back}
use Rattle.ipam_listen.proofs.list_lane.ListLaneLane.finish.Goals as goal

pub returns-clause-told : goal.returns-clause-told
returns-clause-told c =
    ap (λ (l : List Connection). Some l) (taken_back c.args.self.now.handed.items c.pop.new.self.items c.push_reserved.new.self.items c.in-Some.last c.args.source c.args.sink
    (c.pop.ensures.items ∙ ap (λ r. c.pop.new.self.items ++ option_to_list r) c.in-Some.is) c.push_reserved.ensures.items)
