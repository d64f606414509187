use Rattle.std.proofs.Common.{◌≡◌, ◌++◌, map, drop}
use Rattle.placed_book.specs.Firsts.{ids_at}
use Rattle.placed_book.proofs.rivals.ids_among.Given as goal

abbrev pub invariant-rows : goal.invariant-rows
invariant-rows g l = l.ids.items ++ ids_at (map g.T.Located.placed (drop l.index l.rows.rows)) l.table l.block ≡ ids_at (map g.T.Located.placed l.rows.rows) l.table l.block
