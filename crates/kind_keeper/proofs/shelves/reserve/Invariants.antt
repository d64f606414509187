use Rattle.std.proofs.Common.{◌≡◌, ℕ, ◌+◌, ◌<◌, slice_index_or}
use Rattle.kind_keeper.specs.Shelves.{Shelf, all_rows, AreShelves, HasRoom}
use Rattle.kind_keeper.proofs.shelves.reserve.Given as goal

abbrev pub invariant-loop-at : goal.invariant-loop-at
invariant-loop-at l = record {
  all : l.at-end ≡ 7;
  shelves : AreShelves l.shelves.items;
  rows : all_rows l.shelves.items ≡ all_rows l.fn.shelves.items;
  room : (k : ℕ) (d : Shelf) → k < l.at → HasRoom (k + 1) l.puts (slice_index_or l.shelves.items k d);
}
