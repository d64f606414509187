use Rattle.std.proofs.Common.{Result, Ok, Err, OnErr, inr, refl}
use Rattle.snapshot_reads.specs.declared.look.Looked.TheVariants.{Given, Behind}
use Rattle.rest_answers.specs.Told.{told_answer}
use Rattle.snapshot_routes.specs.Answers.{behind_answer}
use Rattle.snapshot_session.proofs.handler.answer_read.Goals as goal

-- what holds in any case holds of an answer that is lost
lost : {T E : Type 0} (r : Result T E) (P : Type 0) → P → OnErr r P
lost (Ok x) P h = tt
lost (Err e) P h = h

pub returns-in-Given-clause-err : goal.returns-in-Given-clause-err
returns-in-Given-clause-err c =
    let told = told_answer c.args.call.now c.in-Given.reply c.args.links c.in-Given.number in
    lost c.answer_to-answer.result _ (inr (told, (Given c.in-Given.reply c.in-Given.number, c.in-Given.ensures.grows, c.in-Given.ensures.answer, refl)))

pub returns-in-Behind-clause-err : goal.returns-in-Behind-clause-err
returns-in-Behind-clause-err c =
    lost c.behind_answer.result _ (inr (behind_answer c.in-Behind.number, (Behind c.in-Behind.number, c.in-Behind.ensures.grows, c.in-Behind.ensures.answer, refl)))
