use Rattle.std.proofs.Common.{◌≤◌, length, map, take}
use Rattle.place_search.specs.declared.TheConstants.{MOST_CANDIDATES}
use Rattle.place_search.specs.Areas.{is_looked_for}
use Rattle.place_search.specs.Ids.{HasMore}
use Rattle.place_search.proofs.search.push_tables.Given as goal

abbrev pub invariant-tables : goal.invariant-tables
invariant-tables g l =
    (length l.ids.items ≤ MOST_CANDIDATES)
    × HasMore (is_looked_for (take l.table-index l.tables) l.area) (map g.T.Located.placed l.book.rows) l.initial.ids.items l.ids.items
