use denote.Exit.{no}
use denote.Param.Send.{param_send, arg_send}
use Rattle.host_files.proofs.Sent.{kept_send}
use Rattle.store_trial.proofs.host_tests.is_no_store.Goals as goal

pub is_a_fault-requires-send-O-Kept : goal.is_a_fault-requires-send-O-Kept
is_a_fault-requires-send-O-Kept c κs = param_send 1 _ (arg_send _ no _ kept_send)
