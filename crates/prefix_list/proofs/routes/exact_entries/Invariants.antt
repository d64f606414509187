use Rattle.std.proofs.Common.{◌≡◌, map, take}
use Rattle.std.specs.List.{AllByRecursion}
use Rattle.inet_num.specs.Net.{IsBlock}
use Rattle.prefix_list.specs.Routes.{exactly}
use Rattle.prefix_list.proofs.routes.exact_entries.Given as goal

abbrev pub invariant-each : goal.invariant-each
invariant-each l = record {
  entries : l.entries.items ≡ map exactly (take l.block-index l.blocks);
  lawful : AllByRecursion IsBlock (take l.block-index l.blocks);
}
