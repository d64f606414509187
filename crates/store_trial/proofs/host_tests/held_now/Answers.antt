use denote.Exit.{no}
use denote.Param.Send.{param_send, arg_send}
use Rattle.host_files.proofs.Sent.{kept_send}
use Rattle.store_trial.proofs.host_tests.held_now.Goals as goal

pub held_before-requires-send-O-Kept : goal.held_before-requires-send-O-Kept
held_before-requires-send-O-Kept c κs = param_send 1 _ (arg_send _ no _ kept_send)
