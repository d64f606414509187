use denote.Exit.{no}
use denote.Param.Send.{param_send, arg_send}
use Rattle.host_files.proofs.Sent.{kept_send}
use Rattle.store_trial.proofs.host_tests.is_refused_now.Goals as goal

pub is_refused-requires-send-O-Kept : goal.is_refused-requires-send-O-Kept
is_refused-requires-send-O-Kept c κs = param_send 2 _ (arg_send _ no _ kept_send)

pub is_refused-requires-send-P-Kept : goal.is_refused-requires-send-P-Kept
is_refused-requires-send-P-Kept c κs = param_send 3 _ (arg_send _ no _ kept_send)
