use Rattle.std.proofs.Common.{◌∙◌}
use Rattle.ipam_edge.proofs.FaultLemmas.{unless}
use Rattle.ipam_keeper.proofs.FaultLemmas.{still_back}
use Rattle.register_store.proofs.Refused.{refused_so}
use Rattle.register_store.proofs.store.RegisterStoreMachineOpenerRegisterKept.open.Goals as goal

pub returns-clause-err : goal.returns-clause-err
returns-clause-err g c =
    refused_so c.args.self.now.store.now _ _ _ _ _ _ _ c.in-Err-open.fault _ _ _ _ _ (c.as_ref.ensures.value ∙ c.in-Ok.ensures) c.in-Ok-start.ensures.ok c.start.ensures.stays c.in-Err-open.ensures.err_told
    c.in-Ok-start.ensures.told c.done.ensures.returned c.in-Err-open.ensures.fault c.start.ensures.later c.in-Err-open.ensures.cause c.done.ensures.raised
    (still_back _ _ _ _ _ (unless (λ e. cc e) c.in-Ok-start.ensures.still) c.in-Ok-start.ensures.fresh c.in-Err-open.ensures.err_still c.done.ensures.raised)
