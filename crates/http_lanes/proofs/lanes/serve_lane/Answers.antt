use Rattle.std.proofs.Common.{◌≡◌, IfSome, List, Option, arith, sym, ap, ◌∙◌, subst}
use Rattle.ipam_listen.specs.Connections.{Connection, Ends, IsLastOut, ends_of}
use Rattle.ipam_listen.proofs.Told.{out_after, with_one_out}
use Rattle.http_lanes.specs.Served.{HasServed}
use Rattle.http_lanes.proofs.Handed.{none_yet, one_more, with_last_finished}
use Rattle.http_lanes.proofs.lanes.serve_lane.Goals as goal

pub loop-seat-init : goal.loop-seat-init
loop-seat-init g c =
    record { served = none_yet g.D.Desk.may (g.D.Desk.view c.args.seat) (g.A.Lane.told c.args.lane.now) c.requires.fresh; later = omega arith }

pub serve_connection-seat-requires-clause-out : goal.serve_connection-seat-requires-clause-out
serve_connection-seat-requires-clause-out g c κs within =
    let pair = c.in-Ok-Some.pair in
    let before : Ends = ends_of (g.A.In.Source.left pair.0) (g.A.Out.Sink.written pair.1) (g.A.In.Source.faults pair.0) (g.A.Out.Sink.faults pair.1) in
    subst (λ (x : Option (List Connection)). IfSome x IsLastOut) (sym (rw c.in-Ok-Some.field-0-is at c.in-Ok-Some.ensures.told)) (out_after (g.A.Lane.told c.loop-seat.lane) before)

pub loop-seat-preserved-in-Ok-Some : goal.loop-seat-preserved-in-Ok-Some
loop-seat-preserved-in-Ok-Some g c =
    let pair = c.in-Ok-Some.pair in
    let before : Ends = ends_of (g.A.In.Source.left pair.0) (g.A.Out.Sink.written pair.1) (g.A.In.Source.faults pair.0) (g.A.Out.Sink.faults pair.1) in
    let i = c.loop-seat.invariant in
    let s = c.serve_connection-seat.ensures.served in
    let told : g.A.Lane.told c.serve_connection-seat.new.lane ≡ with_last_finished s.0 (with_one_out before (g.A.Lane.told c.loop-seat.lane)) =
    s.2 ∙ ap (with_last_finished s.0) (rw c.in-Ok-Some.field-0-is at c.in-Ok-Some.ensures.told) in
    let served = one_more g.D.Desk.may _ (g.D.Desk.view c.loop-seat.seat) (g.D.Desk.view c.serve_connection-seat.result) (g.A.Lane.told c.loop-seat.lane) before s.0 i.served s.1 in
    let before_faults = i.later in
    let accept_faults = c.in-Ok-Some.ensures.cause.later in
    let same_faults = c.serve_connection-seat.ensures.faults in
    record {
      served = subst (λ (x : Option (List Connection)). HasServed g.D.Desk.may (g.D.Desk.view c.args.seat) (g.D.Desk.view c.serve_connection-seat.result) x) (sym told) served;
      later = omega arith;
    }
