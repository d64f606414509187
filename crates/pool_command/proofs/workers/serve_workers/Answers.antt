use denote.Exit.{no}
use denote.Param.Send.{arg_send, arg_sync, param_send, param_sync}
use Rattle.pool_command.proofs.Sent.{closure_sync, worker_send}
use Rattle.pool_command.proofs.workers.serve_workers.Goals as goal

pub for_each_mut-requires-send-T : goal.for_each_mut-requires-send-T
for_each_mut-requires-send-T g c κs within = param_send 1 _ (arg_send _ no _ (worker_send _ _ g.K.PoolKeeper c.type_bounds.send-K c.type_bounds.send-A))

pub for_each_mut-requires-sync-F : goal.for_each_mut-requires-sync-F
for_each_mut-requires-sync-F g c κs within =
    param_sync 2 _ (arg_sync _ no _ (closure_sync g.row.R _ g.row.G g.K.PoolKeeper _ _ _ _ _ c.type_bounds.sync-R c.type_bounds.send-K c.type_bounds.sync-G))
