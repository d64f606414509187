use Rattle.std.proofs.Math.Logic.{⊎_map}
use Rattle.command_lists.proofs.Vrfs.{quiet, there_by, stopped_by, same_told}
use Rattle.command_lists.proofs.table.ask_vrf.Goals as goal

pub returns-clause-there : goal.returns-clause-there
returns-clause-there g c = there_by c.args.register.now.state c.act-reply.new.self.state c.args.id c.act-reply.result c.answer-found.result c.act-reply.ensures.step c.answer-found.ensures.answer

pub returns-clause-stop : goal.returns-clause-stop
returns-clause-stop g c =
    stopped_by c.args.register.now.state c.act-reply.new.self.state c.args.id _ _ c.act-reply.result c.answer-found.result c.act-reply.ensures.step c.answer-found.ensures.answer (λ k. (c.act-reply.ensures.cause k).1)

pub returns-clause-state : goal.returns-clause-state
returns-clause-state g c = c.act-reply.ensures.stays (quiet c.args.register.now.state c.act-reply.new.self.state c.args.id c.act-reply.result c.act-reply.ensures.step)

pub returns-clause-told : goal.returns-clause-told
returns-clause-told g c =
    same_told _ _ c.args.register.now.state c.act-reply.new.self.state c.told.ensures c.act-reply.ensures.told
    (c.act-reply.ensures.stays (quiet c.args.register.now.state c.act-reply.new.self.state c.args.id c.act-reply.result c.act-reply.ensures.step)) c.act-reply.ensures.telling

pub returns-clause-still : goal.returns-clause-still
returns-clause-still g c = ⊎_map c.answer-found.ensures.failed (λ same. same) c.act-reply.ensures.still
