use Rattle.std.proofs.Common.{◌≡◌, drop}
use Rattle.stored_tables.specs.Opening.{told_next}
use Rattle.register_core.proofs.passes.told_next.Given as goal

abbrev pub invariant-loop-next : goal.invariant-loop-next
invariant-loop-next l = told_next l.nexts l.kind ≡ told_next (drop l.next-index l.nexts) l.kind
