use Rattle.ipam_edge.proofs.WritingLemmas.{appends_less_longer, appends_less_after, write_then}
use Rattle.http_session.proofs.answer_writer.write_both.Goals as goal

pub returns-in-Err-clause-told : goal.returns-in-Err-clause-told
returns-in-Err-clause-told g c = appends_less_longer _ _ c.args.first.now c.args.second.now c.in-Err.ensures.less

pub returns-in-Err-write_all-clause-told : goal.returns-in-Err-write_all-clause-told
returns-in-Err-write_all-clause-told g c = appends_less_after _ _ _ c.args.first.now c.args.second.now c.in-Ok.ensures.told c.in-Err-write_all.ensures.less

pub returns-in-Ok-write_all-clause-writes : goal.returns-in-Ok-write_all-clause-writes
returns-in-Ok-write_all-clause-writes g c = write_then _ _ _ _ c.in-Ok.ensures.writes c.in-Ok-write_all.ensures.writes

pub returns-in-Err-write_all-clause-writes : goal.returns-in-Err-write_all-clause-writes
returns-in-Err-write_all-clause-writes g c = write_then _ _ _ _ c.in-Ok.ensures.writes c.in-Err-write_all.ensures.writes
