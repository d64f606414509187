use Rattle.std.proofs.Common.{◌≡◌, ◌≤◌, length}
use Rattle.space_trial.proofs.changes.changed.Given as goal

abbrev pub invariant-changes : goal.invariant-changes
invariant-changes g l = record {
  family : g.S.Space.family_of l.space ≡ l.fn.family;
  few : length (g.S.Space.held l.space) ≤ l.done;
  done : l.done ≤ 1000;
}
