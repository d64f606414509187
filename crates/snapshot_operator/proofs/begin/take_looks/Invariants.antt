use Rattle.std.proofs.Common.{◌≡◌, All, length, vec_capacity}
use Rattle.snapshot_reads.specs.Seen.{IsNewLook}
use Rattle.snapshot_operator.proofs.begin.take_looks.Given as goal

abbrev pub invariant-loop : goal.invariant-loop
invariant-loop l =
    record {
      same : l.feed ≡ l.fn.feed;
      looks : All (λ look. IsNewLook l.fn.feed look) l.looks.items;
      count : length l.looks.items ≡ l.counter;
      room : vec_capacity l.looks ≡ vec_capacity l.fn.looks;
    }
