use Rattle.std.proofs.Common.{map}
use Rattle.std.proofs.lemmas.Result.{on_ok_weaker}
use Rattle.place_search.proofs.Gathered.{one_gathered}
use Rattle.place_search.proofs.search.push_one.Goals as goal

pub returns : goal.returns
returns g c =
    on_ok_weaker c.push_at.result (one_gathered (map g.T.Located.placed c.args.book.now.rows) c.args.table c.args.block c.args.ids.now.items c.push_at.new.ids.items) c.push_at.ensures
