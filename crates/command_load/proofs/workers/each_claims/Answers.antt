use denote.Exit.{no}
use denote.Param.Send.{arg_send, arg_sync, param_send, param_sync}
use Rattle.command_load.proofs.Sent.{claimer_send, closure_sync}
use Rattle.command_load.proofs.workers.each_claims.Goals as goal

pub for_each_mut-requires-send-T : goal.for_each_mut-requires-send-T
for_each_mut-requires-send-T g c κs within = param_send 1 _ (arg_send _ no _ (claimer_send _ g.K.Keeper c.type_bounds.send-K))

pub for_each_mut-requires-sync-F : goal.for_each_mut-requires-sync-F
for_each_mut-requires-sync-F g c κs within =
    param_sync 2 _ (arg_sync _ no _ (closure_sync g.row.R _ g.K.Keeper _ _ _ _ c.type_bounds.sync-R c.type_bounds.send-K))
