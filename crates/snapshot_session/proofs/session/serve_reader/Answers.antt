use Rattle.snapshot_reads.specs.Seen.{Grows}
use Rattle.snapshot_session.specs.Reads.{answers_read}
use Rattle.snapshot_session.proofs.Later.{end_later}
use Rattle.snapshot_session.proofs.Numbers.{answers_go_along}
use Rattle.snapshot_session.proofs.session.serve_reader.Goals as goal

pub returns-clause-grows : goal.returns-clause-grows
returns-clause-grows g c = end_later answers_read Grows answers_go_along _ _ _ _ _ _ _ c.serve-served.ensures.session.ends
