use Rattle.std.proofs.Common.{◌≡◌, ◌≤◌}
use Rattle.command_load.specs.LoadText.{longest}
use Rattle.command_load.proofs.length.load_len.Given as goal

abbrev pub invariant-loop-len : goal.invariant-loop-len
invariant-loop-len l = (l.len ≤ 32) × (longest l.claims l.len ≡ longest l.claims 32)

abbrev pub decreases-loop-len : goal.decreases-loop-len
decreases-loop-len l = l.len
