use Rattle.std.proofs.Common.{map}
use Rattle.place_search.specs.Areas.{is_looked_for}
use Rattle.place_search.proofs.Gathered.{listed}
use Rattle.place_search.proofs.ids_in.Goals as goal

pub returns : goal.returns
returns g c =
    listed (map g.T.Located.placed c.args.book.now.rows) (is_looked_for c.args.tables.now c.args.area.now) c.new-ids.result.items c.push_tables.new.ids.items c.in_ok-rising.field-0.items
    c.new-ids.ensures.items c.in-Ok.ensures.more c.in_ok-rising.ensures.rises c.in-Ok.ensures.few c.in_ok-rising.ensures.few
