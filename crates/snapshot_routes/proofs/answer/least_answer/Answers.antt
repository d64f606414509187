use Rattle.std.proofs.Common.{ℕ, List, [], ap, ◌∙◌}
use Rattle.snapshot_routes.specs.Answers.{bare_answer}
use Rattle.snapshot_routes.proofs.answer.least_answer.Goals as goal

pub returns : goal.returns
returns c = c.bare.ensures ∙ ap (λ (body : List ℕ). bare_answer 400 [] body) c.in_ok-body.ensures
