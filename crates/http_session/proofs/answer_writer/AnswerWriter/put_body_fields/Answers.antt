use Rattle.std.proofs.Common.{ℕ, List, refl, subst}
use Rattle.ipam_edge.proofs.WritingLemmas.{write_nothing, write_then}
use Rattle.http_session.specs.Answers.{IsGathered}
use Rattle.http_session.proofs.Texts.{body_lines}
use Rattle.http_session.proofs.answer_writer.AnswerWriter.put_body_fields.Goals as goal

pub returns-then-there-clause-told : goal.returns-then-there-clause-told
returns-then-there-clause-told g c = λ start before h.
    let h3 = c.put-then-there-2.ensures.told start _ (c.put-then-there.ensures.told start _ (c.put.ensures.told start before h)) in
    let h5 = c.put-then-there-4.ensures.told start _ (c.put-then-there-3.ensures.told start _ h3) in
    subst (λ (l : List ℕ). IsGathered start (g.S.Sink.written c.put-then-there-4.new.sink) c.put-then-there-4.new.self.end c.put-then-there-4.new.self.gathered.items l)
    (body_lines before c.args.media.now c.args.length.now c.args.there c.if-there.true) h5

pub returns-then-there-clause-cause : goal.returns-then-there-clause-cause
returns-then-there-clause-cause g c = λ start h.
    c.put-then-there-4.ensures.cause start (c.put-then-there-3.ensures.cause start (c.put-then-there-2.ensures.cause start (c.put-then-there.ensures.cause start (c.put.ensures.cause start h))))

pub returns-then-there-clause-writes : goal.returns-then-there-clause-writes
returns-then-there-clause-writes g c =
    let h2 = write_then _ _ _ _ c.put.ensures.writes c.put-then-there.ensures.writes in
    let h4 = write_then _ _ _ _ (write_then _ _ _ _ h2 c.put-then-there-2.ensures.writes) c.put-then-there-3.ensures.writes in
    write_then _ _ _ _ h4 c.put-then-there-4.ensures.writes

pub returns-else-there-clause-writes : goal.returns-else-there-clause-writes
returns-else-there-clause-writes g c = write_nothing _ _ _ refl
