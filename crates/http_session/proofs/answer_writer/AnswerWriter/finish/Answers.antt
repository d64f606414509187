use Rattle.std.proofs.Common.{refl}
use Rattle.ipam_edge.proofs.WritingLemmas.{write_nothing}
use Rattle.http_session.proofs.AnswerWriterLemmas.{all_written}
use Rattle.http_session.proofs.answer_writer.AnswerWriter.finish.Goals as goal

pub returns-in-SinkFault-clause-told : goal.returns-in-SinkFault-clause-told
returns-in-SinkFault-clause-told g c = λ start text h. rw c.in-SinkFault.is at h

pub returns-in-Whole-clause-told : goal.returns-in-Whole-clause-told
returns-in-Whole-clause-told g c = λ start text h.
    let p = rw c.in-Whole.is at h in
    all_written start _ _ _ text p.0 c.args.self.gathered.items p.1 p.2 (rw c.as_slice.ensures.value at c.write_both.ensures.told)

pub returns-in-SinkFault-clause-writes : goal.returns-in-SinkFault-clause-writes
returns-in-SinkFault-clause-writes g c = write_nothing _ _ _ refl
