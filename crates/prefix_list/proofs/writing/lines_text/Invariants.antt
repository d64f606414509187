use Rattle.std.proofs.Common.{◌≡◌, ◌+◌, ◌*◌, take}
use Rattle.prefix_list.specs.Styles.{lines_from}
use Rattle.prefix_list.proofs.writing.lines_text.Given as goal

abbrev pub invariant-each : goal.invariant-each
invariant-each l = record {
  number : l.number ≡ l.first + 5 * l.block-index;
  text : l.text.items ≡ lines_from l.style l.name l.first (take l.block-index l.blocks);
}
