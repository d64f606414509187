use Rattle.std.proofs.Common.{take}
use Rattle.span_set.specs.Blocks.{IsFewest}
use Rattle.span_set.proofs.Members.{InRuns}
use Rattle.span_set.proofs.SpanSet.blocks.Given as goal

abbrev pub invariant-runs : goal.invariant-runs
invariant-runs l = IsFewest l.self-inside.family (InRuns (take l.run-index l.self-inside.runs.items)) l.out.items
