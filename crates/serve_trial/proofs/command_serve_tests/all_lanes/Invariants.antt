use Rattle.std.proofs.Common.{◌≡◌, All, []}
use Rattle.ipam_listen.specs.ListLanes.{lane_told}
use Rattle.serve_trial.proofs.command_serve_tests.all_lanes.Given as goal

abbrev pub invariant-numbers : goal.invariant-numbers
invariant-numbers l = All (λ lane. lane_told lane ≡ []) l.lanes.items
