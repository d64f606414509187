use Rattle.std.proofs.Common.{◌≡◌, ◌++◌, length, map}
use Rattle.std.specs.List.{flat_map}
use Rattle.radix_tree.specs.declared.Entry.{Entry}
use Rattle.placed_book.specs.Firsts.{ids_at}
use Rattle.place_search.proofs.search.push_entries.Given as goal

abbrev pub invariant-walk : goal.invariant-walk
invariant-walk g l =
    l.ids.items ++ flat_map (λ (entry : Entry). ids_at (map g.T.Located.placed l.book.rows) l.table entry.block) l.rest
    ≡ l.initial.ids.items ++ flat_map (λ (entry : Entry). ids_at (map g.T.Located.placed l.book.rows) l.table entry.block) l.fn.entries

abbrev pub decreases-walk : goal.decreases-walk
decreases-walk g l = length l.rest
