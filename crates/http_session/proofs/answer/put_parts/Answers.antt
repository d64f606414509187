use Rattle.std.proofs.Common.{rules, [], sym, option_map}
use Rattle.std.proofs.KnownBytes.{Appends-nil}
use Rattle.ipam_edge.proofs.WritingLemmas.{write_then}
use Rattle.http_session.specs.Answers.{IsGathered}
use Rattle.http_session.specs.Replies.{field_of}
use Rattle.http_session.proofs.Texts.{text_is, put_text}
use Rattle.http_session.proofs.answer.put_parts.Goals as goal

pub returns-clause-told : goal.returns-clause-told
returns-clause-told g c =
    let w = g.S.Sink.written c.args.sink.now in
    let h0 : IsGathered w w c.new-answer_writer.result.end c.new-answer_writer.result.gathered.items [] = rw c.new-answer_writer.ensures.0 ([], Appends-nil w, sym c.new-answer_writer.ensures.1) in
    let h1 = c.put.ensures.told w [] h0 in
    let h2 = c.put-2.ensures.told w _ h1 in
    let h3 = c.put_line.ensures.told w _ h2 in
    let h4 = c.put_body_fields.ensures.told w _ h3 in
    let h5 = c.put_line-2.ensures.told w _ h4 in
    let h6 = c.put_field.ensures.told w _ h5 in
    let h7 = c.put_line-3.ensures.told w _ h6 in
    let h8 = c.put-3.ensures.told w _ h7 in
    let h9 = c.put-4.ensures.told w _ h8 in
    let e = text_is c.args.status c.args.allow.now (option_map field_of c.args.field.now) c.args.media.now c.args.close c.args.bare c.args.body.now c.sent_body.result.now c.as_bytes.result.now c.phrase.result.now c.as_bytes-length.result.now c.args.body.now _ _
    (search rules) (search rules) (search rules) (search rules) (search rules) c.sent_body.ensures (search rules) in
    put_text w (g.S.Sink.written c.finish.new.sink) c.finish.result _ _ e (c.finish.ensures.told w _ h9)

pub returns-clause-cause : goal.returns-clause-cause
returns-clause-cause g c =
    let n = g.S.Sink.faults c.args.sink.now in
    let h2 = c.put-2.ensures.cause n (c.put.ensures.cause n (search rules)) in
    let h4 = c.put_body_fields.ensures.cause n (c.put_line.ensures.cause n h2) in
    let h7 = c.put_line-3.ensures.cause n (c.put_field.ensures.cause n (c.put_line-2.ensures.cause n h4)) in
    c.finish.ensures.cause n (c.put-4.ensures.cause n (c.put-3.ensures.cause n h7))

pub returns-clause-writes : goal.returns-clause-writes
returns-clause-writes g c =
    let h2 = write_then _ _ _ _ c.put.ensures.writes c.put-2.ensures.writes in
    let h4 = write_then _ _ _ _ (write_then _ _ _ _ h2 c.put_line.ensures.writes) c.put_body_fields.ensures.writes in
    let h6 = write_then _ _ _ _ (write_then _ _ _ _ h4 c.put_line-2.ensures.writes) c.put_field.ensures.writes in
    let h8 = write_then _ _ _ _ (write_then _ _ _ _ h6 c.put_line-3.ensures.writes) c.put-3.ensures.writes in
    write_then _ _ _ _ (write_then _ _ _ _ h8 c.put-4.ensures.writes) c.finish.ensures.writes
