use Rattle.std.proofs.Common.{◌≡◌, drop}
use Rattle.ipam_data.specs.RowList.{least_pair}
use Rattle.placed_book.specs.Rivals.{coincide_in}
use Rattle.placed_book.proofs.PlacedBook.same_block_pair.Given as goal

abbrev pub invariant-rows : goal.invariant-rows
invariant-rows g l = least_pair g.T.HasId.id_of (coincide_in g.T.Located.placed l.table) l.self.rows ≡ least_pair g.T.HasId.id_of (coincide_in g.T.Located.placed l.table) (drop l.index l.self.rows)
