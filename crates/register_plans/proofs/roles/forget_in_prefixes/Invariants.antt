use Rattle.std.proofs.Common.{◌≡◌, ◌++◌, map, take}
use Rattle.ipam_data.specs.Prefixes.{prefix_rules, prefixes_without_role}
use Rattle.register_plans.proofs.roles.forget_in_prefixes.Given as goal

abbrev pub invariant-rows : goal.invariant-rows
invariant-rows l = l.views.items ≡ l.initial.views.items ++ map prefix_rules.view (prefixes_without_role l.id (take l.index l.book.rows))
