use Rattle.std.proofs.Common.{◌≡◌, take}
use Rattle.span_set.specs.Blocks.{IsRest}
use Rattle.command_free.proofs.free.left_of.Given as goal

abbrev pub invariant-loop-child : goal.invariant-loop-child
invariant-loop-child l = record {
  family : l.left.family ≡ l.within.family;
  rest : IsRest l.left l.within (take l.child-index l.children);
}
