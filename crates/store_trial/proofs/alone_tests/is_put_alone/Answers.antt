use denote.Exit.{no}
use denote.Param.Send.{param_send, arg_send}
use Rattle.host_files.proofs.Sent.{kept_send}
use Rattle.store_trial.proofs.alone_tests.is_put_alone.Goals as goal

pub is_held_alone-requires-send-O-Kept : goal.is_held_alone-requires-send-O-Kept
is_held_alone-requires-send-O-Kept c κs = param_send 1 _ (arg_send _ no _ kept_send)
