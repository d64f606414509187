use Rattle.std.proofs.Common.{◌≡◌, take}
use Rattle.std.specs.List.{flat_map}
use Rattle.pool_report.specs.Report.{run_text}
use Rattle.pool_report.proofs.report.runs_text.Given as goal

abbrev pub invariant-loop-run : goal.invariant-loop-run
invariant-loop-run l = l.text.items ≡ flat_map run_text (take l.run-index l.runs)
