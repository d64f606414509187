use Rattle.std.proofs.Common.{refl}
use Rattle.ipam_edge.proofs.WritingLemmas.{write_nothing, write_then}
use Rattle.http_session.proofs.answer_writer.AnswerWriter.put_line.Goals as goal

pub returns-then-there-clause-cause : goal.returns-then-there-clause-cause
returns-then-there-clause-cause g c = λ start h. c.put-then-there-2.ensures.cause start (c.put-then-there.ensures.cause start (c.put.ensures.cause start h))

pub returns-then-there-clause-writes : goal.returns-then-there-clause-writes
returns-then-there-clause-writes g c = write_then _ _ _ _ (write_then _ _ _ _ c.put.ensures.writes c.put-then-there.ensures.writes) c.put-then-there-2.ensures.writes

pub returns-else-there-clause-writes : goal.returns-else-there-clause-writes
returns-else-there-clause-writes g c = write_nothing _ _ _ refl
