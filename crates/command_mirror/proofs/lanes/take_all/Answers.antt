use Rattle.std.proofs.Common.{◌≡◌, length, map, ap, sym, ◌∙◌, arith, ◌+◌, ◌++◌, List}
use Rattle.http_lanes.specs.Listened.{returned_as}
use Rattle.ipam_listen.specs.Connections.{Returned}
use Rattle.command_mirror.proofs.Coming.{map_length, none_used, rose_on}
use Rattle.command_mirror.proofs.lanes.take_all.Goals as goal

pub give_back_lanes-heard-requires-clause-out : goal.give_back_lanes-heard-requires-clause-out
give_back_lanes-heard-requires-clause-out g c =
    let most = g.met.L.Listener.no_more_back c.args.listener.now in
    let lanes = c.take_lanes.ensures.lanes in
    let same = ap length c.take_lanes.ensures.returned in
    omega arith

pub returns-in-Whole-clause-came : goal.returns-in-Whole-clause-came
returns-in-Whole-clause-came g c =
    let all = c.in-Whole.ensures.all in
    let lanes = c.take_lanes.ensures.lanes in
    let many : length c.take_lanes.new.lanes.items ≡ c.args.wanted = sym c.take_lanes.new.lanes.ok.0 ∙ all.0 in
    let taken = all.0 in
    record {
      fresh = c.take_lanes.ensures.fresh;
      many = many;
      bound = c.take_lanes.ensures.bound;
      lanes = omega arith;
      returned = c.take_lanes.ensures.returned;
      faults = all.1;
    }

pub returns-in-Broken-clause-none : goal.returns-in-Broken-clause-none
returns-in-Broken-clause-none g c =
    let told = g.L.Door.Lane.told in
    let accepts = g.L.Door.Lane.accepts in
    let lanes = c.take_lanes.new.lanes.items in
    let taken = c.take_lanes.ensures.lanes in
    let kept = c.give_back_lanes-heard.ensures.lanes in
    let many = map_length (returned_as told accepts) lanes in
    let counted = c.take_lanes.new.lanes.ok.0 in
    record {
      failed = rose_on _ _ _ c.in-Broken.ensures.all.1 c.give_back_lanes-heard.ensures.later;
      back = map (returned_as told accepts) lanes;
      returned = c.give_back_lanes-heard.ensures.returned ∙ ap (λ (l : List Returned). l ++ map (returned_as told accepts) lanes) c.take_lanes.ensures.returned;
      unused = none_used told accepts lanes c.take_lanes.ensures.fresh;
      lanes = omega arith;
      fewer = λ some. (let few = c.in-Broken.ensures.all.0 in omega arith);
      bound = λ came. c.give_back_lanes-heard.ensures.bound ∙ c.take_lanes.ensures.bound;
    }
