use Rattle.std.proofs.Common.{refl}
use Rattle.register_plans.proofs.Answering.{prefix_listed}
use Rattle.register_plans.proofs.answers.prefix_answer.Goals as goal

pub returns-in_ok-reply-in-Prefixes : goal.returns-in_ok-reply-in-Prefixes
returns-in_ok-reply-in-Prefixes g c =
    prefix_listed c.args.book.now.rows c.args.call.now _ _ _ _ _ c.in_ok-reply-in-Prefixes.reply c.in-List.is c.in-Prefixes.is (λ s. refl) c.in_ok-reply-in-Prefixes.ensures
