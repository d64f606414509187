use Rattle.std.proofs.Common.{◌≡◌, ◌++◌, map, take}
use Rattle.std.specs.List.{flat_map}
use Rattle.inet_num.specs.Net.{Cidr}
use Rattle.placed_book.specs.Firsts.{ids_at}
use Rattle.place_search.proofs.search.push_blocks.Given as goal

abbrev pub invariant-walk : goal.invariant-walk
invariant-walk g l = l.ids.items ≡ l.initial.ids.items ++ flat_map (λ (block : Cidr). ids_at (map g.T.Located.placed l.book.rows) l.table block) (take l.block-index l.blocks)
