use Rattle.std.proofs.Common.{◌≡◌, IfSome, refl, arith}
use Rattle.ipam_listen.specs.Connections.{binding}
use Rattle.machine_serving.specs.Views.{listener_view}
use Rattle.command_mirror.specs.Lanes.{HasNoLanes, HaveCome}
use Rattle.command_mirror.proofs.Coming.{have_come, if_none, if_some, no_lanes, not_bound, stays_put}
use Rattle.command_mirror.proofs.lanes.open_lanes.Goals as goal

pub returns-in-Ok-clause-came : goal.returns-in-Ok-clause-came
returns-in-Ok-clause-came g c =
    let view = listener_view g.L.Listener.bound g.L.Listener.lanes g.L.Listener.returned g.L.Listener.faults in
    let faults = stays_put _ (g.L.Listener.faults c.args.listener.now) (g.L.Listener.faults c.bind.new.self) (λ e. cc e) c.in-Ok.ensures.cause in
    if_some _ _ c.take_all.result
    (λ came k. have_come (binding c.args.place.items c.args.connections) (view c.args.listener.now) (view c.bind.new.self) (view c.take_all.new.listener)
    c.in-Ok.ensures.bound c.bind.ensures.lanes c.bind.ensures.returned faults g.L.Door.Lane.told c.args.wanted came.items k)
    c.take_all.ensures.came

pub returns-in-Ok-clause-none : goal.returns-in-Ok-clause-none
returns-in-Ok-clause-none g c =
    let view = listener_view g.L.Listener.bound g.L.Listener.lanes g.L.Listener.returned g.L.Listener.faults in
    let faults = stays_put _ (g.L.Listener.faults c.args.listener.now) (g.L.Listener.faults c.bind.new.self) (λ e. cc e) c.in-Ok.ensures.cause in
    if_none _ _ c.take_all.result
    (no_lanes (binding c.args.place.items c.args.connections) (view c.args.listener.now) (view c.bind.new.self) (view c.take_all.new.listener)
    c.in-Ok.ensures.bound c.bind.ensures.lanes c.bind.ensures.returned faults c.args.wanted)
    c.take_all.ensures.none

pub returns-in-Err-clause-none : goal.returns-in-Err-clause-none
returns-in-Err-clause-none g c =
    let view = listener_view g.L.Listener.bound g.L.Listener.lanes g.L.Listener.returned g.L.Listener.faults in
    not_bound (binding c.args.place.items c.args.connections) c.args.wanted (view c.args.listener.now) (view c.bind.new.self) (c.in-Err.ensures.cause.rose refl) c.bind.ensures.lanes c.bind.ensures.returned
