use Rattle.std.proofs.Common.{◌≡◌, length, ◌-◌}
use Rattle.ipam_edge.specs.Reading.{GrownByReads, Open}
use Rattle.http_session.specs.Requests.{StopsInHead}
use Rattle.http_session.specs.Steps.{Grown, IsReadWhile}
use Rattle.http_session.proofs.wait.wait_for_head.Given as goal

abbrev pub invariant-loop-head : goal.invariant-loop-head
invariant-loop-head g l = Grown (g.S.Source.left l.initial.source) (g.S.Source.left l.source) l.initial.bytes.items l.bytes.items
    × (g.S.Source.faults l.source ≡ g.S.Source.faults l.initial.source)
    × IsReadWhile StopsInHead l.initial.bytes.items l.bytes.items
    × GrownByReads g.S.Source.reads StopsInHead l.initial.source l.source l.initial.bytes.items l.bytes.items Open

abbrev pub decreases-loop-head : goal.decreases-loop-head
decreases-loop-head g l = 16384 - length l.bytes.items
