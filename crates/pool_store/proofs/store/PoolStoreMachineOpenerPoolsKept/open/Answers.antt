use Rattle.pool_store.proofs.Refused.{refused_at, refused_so}
use Rattle.pool_store.proofs.store.PoolStoreMachineOpenerPoolsKept.open.Goals as goal

pub returns-in-Err-clause-err : goal.returns-in-Err-clause-err
returns-in-Err-clause-err g c =
    refused_at _ _ _ _ c.in-Err.fault c.as_ref.ensures.value
    (refused_so _ _ _ _ _ _ _ c.in-Err.fault _ _ _ _ _ c.in-Ok.ensures.ok c.start.ensures.stays c.in-Err.ensures.err_told c.in-Ok.ensures.told c.done.ensures.returned c.in-Err.ensures.fault c.start.ensures.later c.in-Err.ensures.cause c.done.ensures.raised)
