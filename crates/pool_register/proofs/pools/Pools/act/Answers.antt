use Rattle.std.proofs.Common.{ap, Err}
use Rattle.pool_register.proofs.Keeping.{not_keeper, stop_is, stop_stays}
use Rattle.pool_register.proofs.pools.Pools.act.Goals as goal
use Rattle.pool_register.proofs.pools.Pools.act.Goals.{in-Ok, in-Err}

pub returns-clause-log : goal.returns-clause-log
returns-clause-log g c = elim c.match-answer.branch [
  | in-Ok w ↦ rw (w.reply-is) w.in-Ok.ensures.log
  | in-Err w ↦ stop_stays w.in-Err.stop w.refusal.result c.match-answer.reply (c.args.who, c.args.call) c.args.self.now.log c.answer.new.self.log w.reply-is w.refusal.ensures w.in-Err.ensures.err_log
]

pub returns-clause-cause : goal.returns-clause-cause
returns-clause-cause g c = λ k. elim c.match-answer.branch [
  | in-Ok w ↦ absurd (not_keeper c.args.self.now.state c.answer.new.self.state c.args.call w.in-Ok.reply c.match-answer.reply w.in-Ok.ensures.ok w.reply-is k)
  | in-Err w ↦ w.in-Err.ensures.failed (ap Err (stop_is w.in-Err.stop w.refusal.result c.match-answer.reply w.reply-is w.refusal.ensures k))
]

pub returns-clause-asked : goal.returns-clause-asked
returns-clause-asked g c = λ k. elim c.match-answer.branch [
  | in-Ok w ↦ absurd (not_keeper c.args.self.now.state c.answer.new.self.state c.args.call w.in-Ok.reply c.match-answer.reply w.in-Ok.ensures.ok w.reply-is k)
  | in-Err w ↦ w.in-Err.ensures.asked (ap Err (stop_is w.in-Err.stop w.refusal.result c.match-answer.reply w.reply-is w.refusal.ensures k))
]
