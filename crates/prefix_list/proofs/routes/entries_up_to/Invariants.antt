use Rattle.std.proofs.Common.{◌≡◌, take}
use Rattle.std.specs.List.{AllByRecursion}
use Rattle.inet_num.specs.Net.{IsBlock}
use Rattle.prefix_list.specs.Choices.{upto_of}
use Rattle.prefix_list.proofs.routes.entries_up_to.Given as goal

abbrev pub invariant-each : goal.invariant-each
invariant-each l = record {
  entries : l.entries.items ≡ upto_of l.most (take l.block-index l.blocks);
  lawful : AllByRecursion IsBlock (take l.block-index l.blocks);
}
