use Rattle.std.proofs.Common.{◌≡◌, ◌∙◌, ◌++◌, refl, sym, ap, append_assoc}
use Rattle.ipam_edge.proofs.WritingLemmas.{appends_less_longer, write_nothing}
use Rattle.http_session.proofs.AnswerWriterLemmas.{gathered_after}
use Rattle.http_session.proofs.answer_writer.AnswerWriter.put.Goals as goal

pub returns-in-SinkFault-clause-told : goal.returns-in-SinkFault-clause-told
returns-in-SinkFault-clause-told g c = λ start before h. rw c.in-SinkFault.is (appends_less_longer _ _ before c.args.bytes.now (rw c.in-SinkFault.is at h))

pub returns-in-Ok-clause-told : goal.returns-in-Ok-clause-told
returns-in-Ok-clause-told g c = λ start before h.
    let p = rw c.in-Whole.is at h in
    rw c.in-Whole.is (p.0, p.1, ap (λ l. l ++ c.args.bytes.now) p.2 ∙ append_assoc p.0 c.args.self.now.gathered.items c.args.bytes.now ∙ ap (λ l. p.0 ++ l) (sym c.in-Ok.ensures.ok))

pub returns-in-Err-clause-told : goal.returns-in-Err-clause-told
returns-in-Err-clause-told g c = λ start before h.
    let p = rw c.in-Whole.is at h in
    let same : c.as_slice.result.now ≡ c.args.self.now.gathered.items = c.as_slice.ensures.value ∙ ap (λ v. v.items) c.in-Err.ensures.err in
    gathered_after start _ _ _ before p.0 c.args.self.now.gathered.items c.args.bytes.now _ p.1 p.2 (rw same at c.write_both-self.ensures.told) c.clear.ensures

pub returns-in-SinkFault-clause-writes : goal.returns-in-SinkFault-clause-writes
returns-in-SinkFault-clause-writes g c = write_nothing _ _ _ refl

pub returns-in-Ok-clause-writes : goal.returns-in-Ok-clause-writes
returns-in-Ok-clause-writes g c = write_nothing _ _ _ refl
