use Rattle.std.proofs.Common.{◌≡◌, ◌+◌, ◌≤◌, drop}
use Rattle.inet_num.specs.Fault.{colon_pairs_of}
use Rattle.inet_num.proofs.fault.colon_pairs.Given as goal

abbrev pub invariant-scan : goal.invariant-scan
invariant-scan l = record { few : l.pairs ≤ l.i; rest : l.pairs + colon_pairs_of (drop l.i l.text) ≡ colon_pairs_of l.text }
