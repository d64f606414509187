use Rattle.register_plans.proofs.Answering.{vrf_listed}
use Rattle.register_plans.proofs.answers.vrf_answer.Goals as goal

pub returns-in_ok-reply-in-Vrfs : goal.returns-in_ok-reply-in-Vrfs
returns-in_ok-reply-in-Vrfs c =
    vrf_listed c.args.book.now.rows c.args.call.now _ _ c.in-Vrfs.name c.in-Vrfs.rd _ _ c.in_ok-reply-in-Vrfs.reply c.in-List.is c.in-Vrfs.is c.in_ok-reply-in-Vrfs.ensures
