use Rattle.ipam_edge.proofs.WritingLemmas.{write_then}
use Rattle.http_session.proofs.answer_writer.AnswerWriter.put_field.Goals as goal

pub returns-in-Some-clause-cause : goal.returns-in-Some-clause-cause
returns-in-Some-clause-cause g c = λ start h. c.put-in-Some-3.ensures.cause start (c.put-in-Some-2.ensures.cause start (c.put-in-Some.ensures.cause start (c.put.ensures.cause start h)))

pub returns-in-Some-clause-writes : goal.returns-in-Some-clause-writes
returns-in-Some-clause-writes g c =
    write_then _ _ _ _ (write_then _ _ _ _ (write_then _ _ _ _ c.put.ensures.writes c.put-in-Some.ensures.writes) c.put-in-Some-2.ensures.writes) c.put-in-Some-3.ensures.writes
