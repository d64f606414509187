use Rattle.std.proofs.Common.{◌≡◌}
use Rattle.ipam_data.specs.declared.kinds.Table.{Table}
use Rattle.placed_book.specs.Book.{spare_of, IsInOrder}
use Rattle.register_tables.proofs.Counting.{IsReady}
use Rattle.register_tables.proofs.room.reserve_tables.Given as goal

abbrev pub invariant-loop-view : goal.invariant-loop-view
invariant-loop-view g l =
    IsInOrder g.T.Located.placed l.book × (l.book.rows ≡ l.initial.book.rows) × (l.book.spare ≡ l.initial.book.spare)
    × IsReady l.kind l.views l.view-index (λ (t : Table). spare_of l.book.tables t)
