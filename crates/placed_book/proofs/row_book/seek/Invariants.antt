use Rattle.std.proofs.Common.{◌-◌, ◌≤◌, length}
use Rattle.placed_book.specs.RowBook.{place}
use Rattle.placed_book.proofs.row_book.seek.Given as goal

abbrev pub invariant-loop-low : goal.invariant-loop-low
invariant-loop-low g l = record {
  high : l.high ≤ length l.items;
  past : l.low ≤ place g.T.HasId.id_of l.id l.items;
  upto : place g.T.HasId.id_of l.id l.items ≤ l.high;
}

abbrev pub decreases-loop-low : goal.decreases-loop-low
decreases-loop-low g l = l.high - l.low
