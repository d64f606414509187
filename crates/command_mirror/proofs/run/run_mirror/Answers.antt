use Rattle.std.proofs.Common.{sym, refl, arith}
use Rattle.command_streams.specs.Streams.{told}
use Rattle.command_store.specs.Outside.{stores}
use Rattle.command_store.proofs.Refused.{quiet_refused}
use Rattle.command_mirror.proofs.Refused.{of_refused}
use Rattle.command_mirror.proofs.run.run_mirror.Goals as goal

pub returns-in-Ok : goal.returns-in-Ok
returns-in-Ok g c =
    c.mirror_opened.ensures.mirror (stores g.O.KeeperOpener.stored g.O.KeeperOpener.faults c.args.opener.now)
    (told g.Se.Sink.written g.Se.Sink.faults c.args.errors.now) c.in-Ok.ensures.lent (sym c.in-Ok.ensures.stays) c.in-Ok.ensures.still c.in-Ok.ensures.fresh c.in-Ok.ensures.state c.in-Ok.ensures.told

pub returns-in-Err : goal.returns-in-Err
returns-in-Err g c =
    of_refused c.args.asked.now _ _ _
    (record { input = refl; output = refl; stored = c.in-Err.ensures.same })
    (record { streams = record { input = omega arith; output = omega arith; errors = c.say_fault.ensures.later }; stores = c.open_store.ensures.later })
    c.say_fault.result c.in-Err.fault c.in-Err.ensures.fault c.in-Err.ensures.cause c.say_fault.ensures.said
    (λ five. quiet_refused _ _ c.in-Err.fault c.say_fault.result c.in-Err.ensures.err_still c.say_fault.ensures.said refl refl five)
