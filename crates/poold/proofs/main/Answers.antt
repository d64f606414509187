use denote.Exit.{no}
use denote.Param.Send.{param_send, arg_send, sendable}
use Rattle.std.proofs.Crossing.{crosses}
use Rattle.pool_files.proofs.Sent.{kept_send}
use Rattle.poold.proofs.main.Goals as goal

pub run_over-requires : goal.run_over-requires
run_over-requires g c κs = (param_send 2 _ (arg_send _ no _ kept_send), search (sendable, crosses) depth 20)
