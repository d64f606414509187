use Rattle.std.proofs.Common.{◌∙◌, ◌+◌, ◌-◌, ◌^◌, ap, min}
use Rattle.ipam_listen.specs.Tcp.{RequestClock, request_clock}
use Rattle.ipam_listen.proofs.Clocks.{begins, begins_so}
use Rattle.ipam_listen.proofs.tcp.TcpInSource.read.Goals as goal

pub returns-in-Ok-clause-counted : goal.returns-in-Ok-clause-counted
returns-in-Ok-clause-counted g c =
    record {
      from = request_clock c.begin_request.new.self;
      begins = begins c.take-answered.result c.args.self.now c.begin_request.new.self c.begin_request.ensures;
      since = ap (λ (k : RequestClock). k.since) c.in-Ok.ensures.kept.0;
      bytes = c.saturating_add-self.ensures ∙ ap (λ n. min (n + c.in-Ok.n) (2 ^ 64 - 1)) c.in-Ok.ensures.kept.1;
    }

pub returns-in-Err-clause-counted : goal.returns-in-Err-clause-counted
returns-in-Err-clause-counted g c =
    begins_so (request_clock c.args.self.now) (request_clock c.begin_request.new.self) (request_clock c.read_in_time.new.self) c.in-Err.ensures.kept.0
    (begins c.take-answered.result c.args.self.now c.begin_request.new.self c.begin_request.ensures)
