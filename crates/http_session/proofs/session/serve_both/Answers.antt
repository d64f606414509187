use Rattle.ipam_edge.specs.Lines.{IsBothRead, IsBothWrite}
use Rattle.http_session.proofs.TurnLemmas.{kept_in_turns, reads_of_turns}
use Rattle.http_session.proofs.session.serve_both.Goals as goal

pub returns-clause-source_lent : goal.returns-clause-source_lent
returns-clause-source_lent g c = kept_in_turns g.D.Desk.may (IsBothRead g.R.Source.reads) (IsBothWrite g.W.Sink.writes) (λ b. g.W.Sink.written b.sink.now) (λ b. b.source.ghost_name) (λ a b piece h. h.source_lent) (λ a b piece h. h.source_lent) _ _ _ _ _ _ c.serve_line.ensures.session.turns

pub returns-clause-sink_lent : goal.returns-clause-sink_lent
returns-clause-sink_lent g c = kept_in_turns g.D.Desk.may (IsBothRead g.R.Source.reads) (IsBothWrite g.W.Sink.writes) (λ b. g.W.Sink.written b.sink.now) (λ b. b.sink.ghost_name) (λ a b piece h. h.sink_lent) (λ a b piece h. h.sink_lent) _ _ _ _ _ _ c.serve_line.ensures.session.turns

pub returns-clause-session : goal.returns-clause-session
returns-clause-session g c =
    let said = c.serve_line.ensures.session in
    record {
      bytes = said.bytes;
      grown = said.grown;
      ends = said.ends;
      needed = said.needed;
      last = said.last;
      last_is = said.last_is;
      reads = reads_of_turns g.D.Desk.may (IsBothRead g.R.Source.reads) (IsBothWrite g.W.Sink.writes) (λ b. g.W.Sink.written b.sink.now) g.R.Source.reads (λ b. b.source.now) (λ a b piece h. h.read) (λ a b piece h. h.source) _ _ _ _ _ _ c.serve_line.ensures.session.turns;
    }

pub returns-clause-source_later : goal.returns-clause-source_later
returns-clause-source_later g c = c.serve_line.ensures.cause.source_later

pub returns-clause-source : goal.returns-clause-source
returns-clause-source g c = c.serve_line.ensures.cause.source

pub returns-clause-sink_later : goal.returns-clause-sink_later
returns-clause-sink_later g c = c.serve_line.ensures.cause.sink_later

pub returns-clause-sink : goal.returns-clause-sink
returns-clause-sink g c = c.serve_line.ensures.cause.sink

pub returns-clause-source_kept : goal.returns-clause-source_kept
returns-clause-source_kept g c = c.serve_line.ensures.cause.source_kept

pub returns-clause-sink_kept : goal.returns-clause-sink_kept
returns-clause-sink_kept g c = c.serve_line.ensures.cause.sink_kept
