use Rattle.std.proofs.Common.{◌≡◌, Err, ap}
use Rattle.command_lists.proofs.Vrfs.{refused_answer}
use Rattle.command_lists.proofs.table.answer.Goals as goal

pub returns-in-Refused-clause-answer : goal.returns-in-Refused-clause-answer
returns-in-Refused-clause-answer c = refused_answer c.args.id c.in-Refused.refusal c.args.reply.now c.stop_by.result c.in-Refused.is c.stop_by.ensures.stop

pub returns-in-Refused-clause-failed : goal.returns-in-Refused-clause-failed
returns-in-Refused-clause-failed c = λ k. (let is = c.in-Refused.is in ap Err (c.stop_by.ensures.failed cc))
