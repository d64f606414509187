use Rattle.std.proofs.Common.{◌≡◌, ◌++◌, map, take}
use Rattle.ipam_data.specs.Ranges.{range_rules, ranges_without_role}
use Rattle.register_plans.proofs.roles.forget_in_ranges.Given as goal

abbrev pub invariant-rows : goal.invariant-rows
invariant-rows l = l.views.items ≡ l.initial.views.items ++ map range_rules.view (ranges_without_role l.id (take l.row-index l.rows))
