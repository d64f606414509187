use Rattle.std.proofs.Common.{◌≡◌, ℕ, ◌↔◌, IsTrue, take}
use Rattle.inet_num.specs.Free.{is_taken}
use Rattle.span_set.specs.Spans.{IsIn}
use Rattle.prefix_list.proofs.sets.set_of.Given as goal

abbrev pub invariant-loop-block : goal.invariant-loop-block
invariant-loop-block l = record {
  family : l.set.family ≡ l.fn.family;
  members : (n : ℕ) → IsIn l.set n ↔ IsTrue (is_taken (take l.block-index l.blocks) n);
}
