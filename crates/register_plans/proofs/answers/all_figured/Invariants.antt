use Rattle.std.proofs.Common.{◌≡◌, map, take, drop, ◌++◌}
use Rattle.register_plans.specs.Answered.{figured_among}
use Rattle.register_plans.proofs.answers.all_figured.Given as goal

abbrev pub invariant-loop-view : goal.invariant-loop-view
invariant-loop-view g l =
    l.view-items ≡ map (figured_among l.book.rows) (take l.view-index l.initial.view-items) ++ drop l.view-index l.initial.view-items
