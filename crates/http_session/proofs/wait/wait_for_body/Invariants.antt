use Rattle.std.proofs.Common.{◌≡◌, length, ◌-◌}
use Rattle.ipam_edge.specs.Reading.{GrownByReads, Open}
use Rattle.http_session.specs.Steps.{Grown, IsReadWhile, IsShort}
use Rattle.http_session.proofs.wait.wait_for_body.Given as goal

abbrev pub invariant-loop-source : goal.invariant-loop-source
invariant-loop-source g l = Grown (g.S.Source.left l.initial.source) (g.S.Source.left l.source) l.initial.bytes.items l.bytes.items
    × (g.S.Source.faults l.source ≡ g.S.Source.faults l.initial.source)
    × IsReadWhile (IsShort l.needed) l.initial.bytes.items l.bytes.items
    × GrownByReads g.S.Source.reads (IsShort l.needed) l.initial.source l.source l.initial.bytes.items l.bytes.items Open

abbrev pub decreases-loop-source : goal.decreases-loop-source
decreases-loop-source g l = l.needed - length l.bytes.items
