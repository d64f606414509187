use Rattle.std.proofs.Common.{rules, ◌≡◌, ◌+◌, ◌++◌, ◌∙◌, ℕ, List, length, map, refl, sym, ap, subst, arith}
use Rattle.http_lanes.specs.Listened.{IsListening, returned_as}
use Rattle.http_lanes.specs.declared.listening.Listening.{Listening}
use Rattle.http_lanes.specs.declared.listening.Listening.TheVariants.{Whole, Broken}
use Rattle.ipam_edge.specs.Faults.{Rose}
use Rattle.ipam_listen.specs.Connections.{Returned, binding}
use Rattle.machine_serving.specs.Views.{listener_view}
use Rattle.command_mirror.specs.Lanes.{HasNoLanes, HaveCome}
use Rattle.command_mirror.proofs.Coming.{heard_of, map_length}
use Rattle.command_mirror.proofs.mirrored.mirror_prepared.Goals as goal

pub give_back_lanes-heard-requires-clause-out : goal.give_back_lanes-heard-requires-clause-out
give_back_lanes-heard-requires-clause-out g c κs within =
    let most = g.met.L.Listener.no_more_back c.args.listener.now in
    let came = c.in-Some.ensures.came in
    let lanes = came.lanes in
    let same = ap length came.returned in
    let many = came.many in
    let kept = c.mirror_all-register.ensures.many in
    let counted = c.in-Some.lanes.ok.0 in
    omega arith

pub returns-in_default-clause-ran : goal.returns-in_default-clause-ran
returns-in_default-clause-ran g c =
    let view = listener_view g.L.Listener.bound g.L.Listener.lanes g.L.Listener.returned g.L.Listener.faults in (
      record { same = refl; unread = refl; unwritten = refl },
      subst (λ (place : List ℕ). HasNoLanes (binding place c.args.asked.now.connections) c.args.asked.now.readers (view c.args.listener.now) (view c.open_lanes.new.listener)) c.requires.place c.in_default.ensures.none,
    )

pub returns-clause-ran : goal.returns-clause-ran
returns-clause-ran g c =
    let came = c.in-Some.ensures.came in
    let back = map (returned_as g.L.Door.Lane.told g.L.Door.Lane.accepts) c.mirror_all-register.result.lanes.items in
    let many = map_length (returned_as g.L.Door.Lane.told g.L.Door.Lane.accepts) c.mirror_all-register.result.lanes.items in
    let all = came.many in
    let kept = c.mirror_all-register.ensures.many in
    let counted = c.in-Some.lanes.ok.0 in
    let kept_counted = c.mirror_all-register.result.lanes.ok.0 in
    record {
      back = back;
      mirrored = c.mirror_all-register.ensures.mirrored;
      returned = c.give_back_lanes-heard.ensures.returned ∙ ap (λ (l : List Returned). l ++ back) came.returned;
      many = omega arith;
      lanes = c.give_back_lanes-heard.ensures.lanes ∙ came.lanes;
      bound = c.give_back_lanes-heard.ensures.bound ∙ (came.bound ∙ ap (λ (place : List ℕ). binding place c.args.asked.now.connections) c.requires.place);
      listened = heard_of c.give_back_lanes-heard.result _ _ _ came.faults c.give_back_lanes-heard.ensures.whole c.give_back_lanes-heard.ensures.broken;
    }
