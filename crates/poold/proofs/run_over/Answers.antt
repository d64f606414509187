use denote.Exit.{no}
use denote.Param.Send.{param_send, arg_send, param_sync}
use Rattle.ipam_listen.proofs.tcp.TcpDoor.TheSendSync as door
use Rattle.ipam_listen.proofs.tcp.TcpIn.TheSendSync as source
use Rattle.ipam_listen.proofs.tcp.TcpOut.TheSendSync as sink
use Rattle.std.proofs.net.tcp.TcpStream.TheSendSync as stream
use Rattle.poold.proofs.run_over.Goals as goal

pub program-requires : goal.program-requires
program-requires g c κs = (
  param_send 3 _ (arg_send _ no _ (door.the_send _ _ c.type_bounds.sync-R)),
  (
    param_send 4 _ (arg_send _ no _ (source.the_send _ _ _ stream.the_send c.type_bounds.sync-R)),
    (
      param_send 5 _ (arg_send _ no _ (sink.the_send _ _ c.type_bounds.sync-R)),
      (
        param_send 6 _ c.type_bounds.send-O-Kept,
        param_sync 0 _ c.type_bounds.sync-R,
      ),
    ),
  ),
)
