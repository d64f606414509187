use Rattle.std.proofs.Common.{[], ◌++◌, ◌∙◌, ap, refl, inl, arith}
use Rattle.std.proofs.KnownBytes.{Appends-nil}
use Rattle.ipam_edge.proofs.FaultLemmas.{unless}
use Rattle.http_session.specs.declared.session.SessionEnd.TheVariants.{Closed, SinkFault, Memory}
use Rattle.http_session.specs.declared.answer.PutEnd.TheVariants as put
use Rattle.http_session.specs.Requests.{Asks, Refuses}
use Rattle.http_session.specs.Steps.{framed}
use Rattle.http_session.specs.Replies.{answer_of}
use Rattle.http_session.specs.Talk.{is_head}
use Rattle.http_session.proofs.Growth.{Grown-refl}
use Rattle.http_session.proofs.Talks.{few_after, number_is, reply_text}
use Rattle.http_session.proofs.TurnLemmas.{cause_put, cause_source, cause_waited, line_closes, line_cut_short, line_ends, line_goes_on, line_needed, line_starved, line_starved_at, line_total, line_unsaid, sink_put, source_put}
use Rattle.http_session.proofs.session.serve_line.Goals as goal

pub returns-in_default-clause-session : goal.returns-in_default-clause-session
returns-in_default-clause-session g c =
    let so_far = c.loop-request.invariant.talk in
    let item = c.in-Request.ensures.item in
    line_starved_at g.D.Desk.may g.L.Source.reads g.L.Sink.writes g.L.Source.left g.L.Sink.written g.met.L.Line.read_writes_nothing g.met.L.Line.write_reads_nothing _ _ c.args.line.now c.loop-request.line _ _ _ so_far.2 so_far.4 so_far.1 so_far.3 _ item.0 item.1 item.3 item.4.0 item.4.2 _ (framed c.in-Request.request) _ item.4.1 item.2.0 (rw c.in_default.is at c.answer-next.ensures.err)

pub returns-in_default-clause-cause : goal.returns-in_default-clause-cause
returns-in_default-clause-cause g c =
    let so_far = c.loop-request.invariant.talk in
    let item = c.in-Request.ensures.item in
    cause_waited g.L.Source.reads g.L.Sink.writes g.L.Source.faults g.L.Sink.faults g.met.L.Line.read_counts_for_itself g.met.L.Line.write_counts_for_itself c.args.line.now c.loop-request.line _ _ item.0 item.4.0 item.4.2 c.loop-request.invariant.source c.loop-request.invariant.sink (unless (λ e. cc e) c.in-Request.ensures.kept) Memory (λ e. cc e) (λ e. cc e)

pub returns-in-SinkFault-clause-session : goal.returns-in-SinkFault-clause-session
returns-in-SinkFault-clause-session g c =
    let so_far = c.loop-request.invariant.talk in
    let item = c.in-Request.ensures.item in
    let text = reply_text c.in-Ok.reply (framed c.in-Request.request) _ (c.is_head.ensures ∙ ap is_head c.deref.ensures.value) in
    let answered = rw c.in-Ok.is at c.answer-next.ensures.answer in
    line_unsaid g.D.Desk.may g.L.Source.reads g.L.Sink.writes g.L.Source.left g.L.Sink.written g.met.L.Line.read_writes_nothing g.met.L.Line.write_reads_nothing _ _ c.args.line.now c.loop-request.line _ _ _ so_far.2 so_far.4 so_far.1 so_far.3 _ item.0 item.1 item.3 item.4.0 item.4.2 _ _ (Asks (framed c.in-Request.request)) _ (answer_of c.in-Ok.reply) _ c.in-SinkFault.ensures.writes (inl item.4.1) item.2.0 c.in-SinkFault.ensures.told text answered

pub returns-in-SinkFault-clause-cause : goal.returns-in-SinkFault-clause-cause
returns-in-SinkFault-clause-cause g c =
    let so_far = c.loop-request.invariant.talk in
    let item = c.in-Request.ensures.item in
    cause_put g.L.Source.reads g.L.Sink.writes g.L.Source.faults g.L.Sink.faults g.met.L.Line.read_counts_for_itself g.met.L.Line.write_counts_for_itself c.args.line.now c.loop-request.line _ _ item.0 item.4.0 item.4.2 c.loop-request.invariant.source c.loop-request.invariant.sink (unless (λ e. cc e) c.in-Request.ensures.kept) _ put.SinkFault SinkFault c.in-SinkFault.ensures.writes c.in-SinkFault.ensures.cause (λ e. cc e) (λ e. refl) (λ e. refl)

pub returns-then-request-clause-session : goal.returns-then-request-clause-session
returns-then-request-clause-session g c =
    let so_far = c.loop-request.invariant.talk in
    let item = c.in-Request.ensures.item in
    let text = reply_text c.in-Ok.reply (framed c.in-Request.request) _ (c.is_head.ensures ∙ ap is_head c.deref.ensures.value) in
    let answered = rw c.in-Ok.is at c.answer-next.ensures.answer in
    let counted = number_is _ _ item.2.1 so_far.2.few in
    line_closes g.D.Desk.may g.L.Source.reads g.L.Sink.writes g.L.Source.left g.L.Sink.written g.met.L.Line.read_writes_nothing g.met.L.Line.write_reads_nothing _ _ c.args.line.now c.loop-request.line _ _ _ so_far.2 so_far.4 so_far.1 so_far.3 _ item.0 item.1 item.3 item.4.0 item.4.2 _ _ (Asks (framed c.in-Request.request)) _ (answer_of c.in-Ok.reply) _ _ c.in-Whole.ensures.writes (inl item.4.1) item.2.0 c.if-request.true c.in-Whole.ensures.told text answered (c.number.ensures ∙ counted)

pub returns-then-request-clause-cause : goal.returns-then-request-clause-cause
returns-then-request-clause-cause g c =
    let so_far = c.loop-request.invariant.talk in
    let item = c.in-Request.ensures.item in
    cause_put g.L.Source.reads g.L.Sink.writes g.L.Source.faults g.L.Sink.faults g.met.L.Line.read_counts_for_itself g.met.L.Line.write_counts_for_itself c.args.line.now c.loop-request.line _ _ item.0 item.4.0 item.4.2 c.loop-request.invariant.source c.loop-request.invariant.sink (unless (λ e. cc e) c.in-Request.ensures.kept) _ put.Whole (Closed c.number.result) c.in-Whole.ensures.writes c.in-Whole.ensures.cause (λ e. cc e) (λ e. cc e) (λ e. cc e)

pub loop-request-preserved : goal.loop-request-preserved
loop-request-preserved g c =
    let so_far = c.loop-request.invariant.talk in
    let item = c.in-Request.ensures.item in
    let text = reply_text c.in-Ok.reply (framed c.in-Request.request) _ (c.is_head.ensures ∙ ap is_head c.deref.ensures.value) in
    let answered = rw c.in-Ok.is at c.answer-next.ensures.answer in
    let few = few_after _ _ _ _ item.2.0 c.if-request.false in
    let counted = number_is _ _ item.2.1 so_far.2.few in
    let on = line_goes_on g.D.Desk.may g.L.Source.reads g.L.Sink.writes g.L.Source.left g.L.Sink.written g.met.L.Line.read_writes_nothing g.met.L.Line.write_reads_nothing _ _ c.args.line.now c.loop-request.line _ _ _ so_far.2 so_far.4 so_far.1 so_far.3 _ item.0 item.1 item.3 item.4.0 item.4.2 _ _ (Asks (framed c.in-Request.request)) _ (answer_of c.in-Ok.reply) _ _ item.4.1 c.in-Whole.ensures.writes item.2.0 c.if-request.false few c.in-Whole.ensures.told text answered counted in
    record {
      talk = (so_far.0 ++ item.1.got, line_total g.D.Desk.may g.L.Source.reads g.L.Sink.writes g.L.Source.left g.L.Sink.written g.met.L.Line.read_writes_nothing g.met.L.Line.write_reads_nothing _ _ c.args.line.now c.loop-request.line _ _ _ so_far.2 so_far.4 so_far.1 so_far.3 _ item.0 item.1 item.3 item.4.0 item.4.2 _ c.in-Whole.ensures.writes, on.0, line_needed g.D.Desk.may g.L.Source.reads g.L.Sink.writes g.L.Source.left g.L.Sink.written g.met.L.Line.read_writes_nothing g.met.L.Line.write_reads_nothing _ _ c.args.line.now c.loop-request.line _ _ _ so_far.2 so_far.4 so_far.1 so_far.3 _ item.0 item.1 item.3 item.4.0 item.4.2, on.1);
      source = source_put g.L.Source.reads g.L.Sink.writes g.L.Source.faults g.L.Sink.faults g.met.L.Line.read_counts_for_itself g.met.L.Line.write_counts_for_itself c.args.line.now c.loop-request.line _ _ item.0 item.4.0 item.4.2 c.loop-request.invariant.source c.loop-request.invariant.sink (unless (λ e. cc e) c.in-Request.ensures.kept) _ c.in-Whole.ensures.writes;
      sink = sink_put g.L.Source.reads g.L.Sink.writes g.L.Source.faults g.L.Sink.faults g.met.L.Line.read_counts_for_itself g.met.L.Line.write_counts_for_itself c.args.line.now c.loop-request.line _ _ item.0 item.4.0 item.4.2 c.loop-request.invariant.source c.loop-request.invariant.sink (unless (λ e. cc e) c.in-Request.ensures.kept) _ c.in-Whole.ensures.cause;
      whole = λ h. rw c.in-Ok.is at c.answer-next.ensures.whole (c.loop-request.invariant.whole h);
    }

pub returns-in-SinkFault-put_answer-clause-session : goal.returns-in-SinkFault-put_answer-clause-session
returns-in-SinkFault-put_answer-clause-session g c =
    let so_far = c.loop-request.invariant.talk in
    let item = c.in-Bad.ensures.item in
    line_unsaid g.D.Desk.may g.L.Source.reads g.L.Sink.writes g.L.Source.left g.L.Sink.written g.met.L.Line.read_writes_nothing g.met.L.Line.write_reads_nothing _ _ c.args.line.now c.loop-request.line _ _ _ so_far.2 so_far.4 so_far.1 so_far.3 _ item.0 item.1 item.3 item.4.0 item.4.2 _ _ (Refuses c.in-Bad.fault) _ (answer_of c.refuse-reply.result) _ c.in-SinkFault-put_answer.ensures.writes item.4.1 item.2.0 c.in-SinkFault-put_answer.ensures.told refl (c.refuse-reply.ensures.refused, refl)

pub returns-in-SinkFault-put_answer-clause-cause : goal.returns-in-SinkFault-put_answer-clause-cause
returns-in-SinkFault-put_answer-clause-cause g c =
    let so_far = c.loop-request.invariant.talk in
    let item = c.in-Bad.ensures.item in
    cause_put g.L.Source.reads g.L.Sink.writes g.L.Source.faults g.L.Sink.faults g.met.L.Line.read_counts_for_itself g.met.L.Line.write_counts_for_itself c.args.line.now c.loop-request.line _ _ item.0 item.4.0 item.4.2 c.loop-request.invariant.source c.loop-request.invariant.sink (unless (λ e. cc e) c.in-Bad.ensures.kept) _ put.SinkFault SinkFault c.in-SinkFault-put_answer.ensures.writes c.in-SinkFault-put_answer.ensures.cause (λ e. cc e) (λ e. refl) (λ e. refl)

pub returns-in-Whole-put_answer-clause-session : goal.returns-in-Whole-put_answer-clause-session
returns-in-Whole-put_answer-clause-session g c =
    let so_far = c.loop-request.invariant.talk in
    let item = c.in-Bad.ensures.item in
    let counted = number_is _ _ item.2.1 so_far.2.few in
    line_closes g.D.Desk.may g.L.Source.reads g.L.Sink.writes g.L.Source.left g.L.Sink.written g.met.L.Line.read_writes_nothing g.met.L.Line.write_reads_nothing _ _ c.args.line.now c.loop-request.line _ _ _ so_far.2 so_far.4 so_far.1 so_far.3 _ item.0 item.1 item.3 item.4.0 item.4.2 _ _ (Refuses c.in-Bad.fault) _ (answer_of c.refuse-reply.result) _ _ c.in-Whole-put_answer.ensures.writes item.4.1 item.2.0 refl c.in-Whole-put_answer.ensures.told refl (c.refuse-reply.ensures.refused, refl) (c.number-in-Whole-put_answer.ensures ∙ counted)

pub returns-in-Whole-put_answer-clause-cause : goal.returns-in-Whole-put_answer-clause-cause
returns-in-Whole-put_answer-clause-cause g c =
    let so_far = c.loop-request.invariant.talk in
    let item = c.in-Bad.ensures.item in
    cause_put g.L.Source.reads g.L.Sink.writes g.L.Source.faults g.L.Sink.faults g.met.L.Line.read_counts_for_itself g.met.L.Line.write_counts_for_itself c.args.line.now c.loop-request.line _ _ item.0 item.4.0 item.4.2 c.loop-request.invariant.source c.loop-request.invariant.sink (unless (λ e. cc e) c.in-Bad.ensures.kept) _ put.Whole (Closed c.number-in-Whole-put_answer.result) c.in-Whole-put_answer.ensures.writes c.in-Whole-put_answer.ensures.cause (λ e. cc e) (λ e. cc e) (λ e. cc e)

pub returns-in-End-clause-session : goal.returns-in-End-clause-session
returns-in-End-clause-session g c =
    let so_far = c.loop-request.invariant.talk in
    let item = c.in-End.ensures.item in
    line_ends g.D.Desk.may g.L.Source.reads g.L.Sink.writes g.L.Source.left g.L.Sink.written g.met.L.Line.read_writes_nothing g.met.L.Line.write_reads_nothing _ _ c.args.line.now c.loop-request.line _ _ _ so_far.2 so_far.4 so_far.1 so_far.3 _ item.0 item.1 item.3 item.4.0 item.4.2 _ item.4.1 item.2.0 item.2.1 (c.number-in-End.ensures ∙ item.2.3)

pub returns-in-End-clause-cause : goal.returns-in-End-clause-cause
returns-in-End-clause-cause g c =
    let so_far = c.loop-request.invariant.talk in
    let item = c.in-End.ensures.item in
    cause_waited g.L.Source.reads g.L.Sink.writes g.L.Source.faults g.L.Sink.faults g.met.L.Line.read_counts_for_itself g.met.L.Line.write_counts_for_itself c.args.line.now c.loop-request.line _ _ item.0 item.4.0 item.4.2 c.loop-request.invariant.source c.loop-request.invariant.sink (unless (λ e. cc e) c.in-End.ensures.kept) (Closed c.number-in-End.result) (λ e. cc e) (λ e. cc e)

pub returns-in-SourceFault-clause-session : goal.returns-in-SourceFault-clause-session
returns-in-SourceFault-clause-session g c =
    let so_far = c.loop-request.invariant.talk in
    let item = c.in-SourceFault.ensures.item in
    line_cut_short g.D.Desk.may g.L.Source.reads g.L.Sink.writes g.L.Source.left g.L.Sink.written g.met.L.Line.read_writes_nothing g.met.L.Line.write_reads_nothing _ _ c.args.line.now c.loop-request.line _ _ _ so_far.2 so_far.4 so_far.1 so_far.3 _ item.0 item.1 item.3 item.4.0 item.4.2 item.4.1 item.2.0

pub returns-in-SourceFault-clause-cause : goal.returns-in-SourceFault-clause-cause
returns-in-SourceFault-clause-cause g c =
    let so_far = c.loop-request.invariant.talk in
    let item = c.in-SourceFault.ensures.item in
    cause_source g.L.Source.reads g.L.Source.faults g.L.Sink.faults g.met.L.Line.read_counts_for_itself c.args.line.now c.loop-request.line _ _ item.0 item.4.0 item.4.2 c.loop-request.invariant.source c.loop-request.invariant.sink c.next_request.ensures.later (c.next_request.ensures.cause c.in-SourceFault.is)

pub returns-in-Memory-clause-session : goal.returns-in-Memory-clause-session
returns-in-Memory-clause-session g c =
    let so_far = c.loop-request.invariant.talk in
    let item = c.in-Memory.ensures.item in
    line_starved g.D.Desk.may g.L.Source.reads g.L.Sink.writes g.L.Source.left g.L.Sink.written g.met.L.Line.read_writes_nothing g.met.L.Line.write_reads_nothing _ _ c.args.line.now c.loop-request.line _ _ _ so_far.2 so_far.4 so_far.1 so_far.3 _ item.0 item.1 item.3 item.4.0 item.4.2 item.4.1

pub returns-in-Memory-clause-cause : goal.returns-in-Memory-clause-cause
returns-in-Memory-clause-cause g c =
    let so_far = c.loop-request.invariant.talk in
    let item = c.in-Memory.ensures.item in
    cause_waited g.L.Source.reads g.L.Sink.writes g.L.Source.faults g.L.Sink.faults g.met.L.Line.read_counts_for_itself g.met.L.Line.write_counts_for_itself c.args.line.now c.loop-request.line _ _ item.0 item.4.0 item.4.2 c.loop-request.invariant.source c.loop-request.invariant.sink (unless (λ e. cc e) c.in-Memory.ensures.kept) Memory (λ e. cc e) (λ e. cc e)

pub loop-request-init : goal.loop-request-init
loop-request-init g c =
    record {
      talk = (
        [],
        Grown-refl _ [],
        record {
          items = [];
          items_are = c.new-inbox.ensures.bytes;
          open_ = tt;
          count = c.new-inbox.ensures.number;
          few = omega arith;
          talk = record { answers = []; run = refl; told = Appends-nil _ };
        },
        inl refl,
        (refl, refl, refl),
      );
      source = refl;
      sink = refl;
      whole = λ h. h;
    }
