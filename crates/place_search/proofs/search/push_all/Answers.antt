use Rattle.std.proofs.Common.{map}
use Rattle.std.proofs.lemmas.Result.{on_ok_weaker}
use Rattle.place_search.proofs.Gathered.{families_then}
use Rattle.place_search.proofs.search.push_all.Goals as goal

pub returns : goal.returns
returns g c =
    on_ok_weaker c.push_family-2.result
    (λ h. families_then (map g.T.Located.placed c.args.book.now.rows) c.args.table c.args.ids.now.items c.push_family.new.ids.items c.push_family-2.new.ids.items c.in_ok-push_family.ensures h)
    c.push_family-2.ensures
