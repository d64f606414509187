use Rattle.std.proofs.Common.{ap, sym, ◌∙◌}
use Rattle.ipam_data.specs.declared.replies.Reply.{Reply}
use Rattle.rest_routes.specs.Answers.{reply_answer}
use Rattle.rest_answers.proofs.answer.answer_at.Goals as goal

pub returns-then-is_memory-clause-answer : goal.returns-then-is_memory-clause-answer
returns-then-is_memory-clause-answer c =
    c.answer_of_want.ensures c.args.links.now ∙ ap (λ (r : Reply). reply_answer r c.args.links.now c.args.place) (sym c.if-is_memory.ensures)
