use Rattle.std.proofs.Common.{◌≡◌, ◌-◌, ℕ, true, List, []}
use Rattle.http_session.specs.Steps.{Grown}
use Rattle.http_session.specs.Ends.{IsBetween, IsReadAsNeeded}
use Rattle.http_session.specs.Turns.{Rounds}
use Rattle.http_session.proofs.session.serve_line.Given as goal

abbrev pub invariant-loop-request : goal.invariant-loop-request
invariant-loop-request g l =
    record {
      talk : (bytes : List ℕ) × Grown (g.L.Source.left l.initial.line) (g.L.Source.left l.line) [] bytes
          × (between : IsBetween g.D.Desk.may (g.D.Desk.view l.initial.seat) (g.D.Desk.view l.seat) (g.L.Sink.written l.initial.line) (g.L.Sink.written l.line) bytes l.inbox.bytes l.inbox.number)
          × IsReadAsNeeded bytes
          × Rounds g.D.Desk.may g.L.Source.reads g.L.Sink.writes g.L.Sink.written 0 (g.D.Desk.view l.initial.seat) l.initial.line [] between.items between.talk.answers (g.D.Desk.view l.seat) l.line bytes;
      source : g.L.Source.faults l.line ≡ g.L.Source.faults l.initial.line;
      sink : g.L.Sink.faults l.line ≡ g.L.Sink.faults l.initial.line;
      whole : g.D.Desk.whole l.initial.seat ≡ true → g.D.Desk.whole l.seat ≡ true;
    }

abbrev pub decreases-loop-request : goal.decreases-loop-request
decreases-loop-request g l = 1000 - l.inbox.number
