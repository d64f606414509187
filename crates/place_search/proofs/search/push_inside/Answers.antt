use Rattle.std.proofs.Common.{map}
use Rattle.std.proofs.lemmas.Result.{on_ok_weaker}
use Rattle.place_search.proofs.Gathered.{inside_gathered}
use Rattle.place_search.proofs.search.push_inside.Goals as goal

pub returns : goal.returns
returns g c =
    on_ok_weaker c.push_entries.result
    (λ e. inside_gathered (map g.T.Located.placed c.args.book.now.rows) c.args.table c.args.within c.family.result c.in-Some.space.now.blocks _ c.args.ids.now.items c.push_entries.new.ids.items c.family.ensures.family c.in-Some.ensures.blocks c.inside.ensures e)
    c.push_entries.ensures
