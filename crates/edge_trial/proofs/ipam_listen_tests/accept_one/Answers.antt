use Rattle.std.proofs.Common.{IfSome, List, Option, sym, subst}
use Rattle.ipam_listen.specs.Connections.{Connection, Ends, IsLastOut, ends_of}
use Rattle.ipam_listen.proofs.Told.{out_after}
use Rattle.edge_trial.proofs.ipam_listen_tests.accept_one.Goals as goal

pub finish-requires : goal.finish-requires
finish-requires g c =
    let pair = c.in-Ok-Some.pair in
    let before : Ends = ends_of (g.A.In.Source.left pair.0) (g.A.Out.Sink.written pair.1) (g.A.In.Source.faults pair.0) (g.A.Out.Sink.faults pair.1) in
    record { out = subst (λ (x : Option (List Connection)). IfSome x IsLastOut) (sym (rw c.in-Ok-Some.field-0-is at c.in-Ok-Some.ensures.told)) (out_after (g.A.Lane.told c.args.lane.now) before) }
