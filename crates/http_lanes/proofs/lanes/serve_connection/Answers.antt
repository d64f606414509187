use Rattle.ipam_listen.specs.Connections.{ends_of}
use Rattle.http_lanes.proofs.lanes.serve_connection.Goals as goal

pub returns-clause-served : goal.returns-clause-served
returns-clause-served g c =
    let source = c.serve-seat.new.source in
    let sink = c.serve-seat.new.sink in
    let s = c.serve-seat.ensures.session in (
      ends_of (g.A.In.Source.left source) (g.A.Out.Sink.written sink) (g.A.In.Source.faults source) (g.A.Out.Sink.faults sink),
      record {
        bytes = s.bytes;
        how = c.serve-seat.result.1;
        grown = s.grown;
        needed = s.needed;
        talk = s.ends;
        source = c.serve-seat.ensures.source;
        source_kept = c.serve-seat.ensures.source_kept;
        sink = c.serve-seat.ensures.sink;
        sink_kept = c.serve-seat.ensures.sink_kept;
      },
      c.finish.ensures.told,
    )
