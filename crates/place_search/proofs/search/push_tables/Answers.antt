use Rattle.std.proofs.Common.{rules, map}
use Rattle.ipam_data.specs.declared.kinds.Table.TheVariants.{Global}
use Rattle.place_search.proofs.Gathered.{table_then}
use Rattle.place_search.proofs.search.push_tables.Goals as goal

pub tables-preserved : goal.tables-preserved
tables-preserved g c = (
  search rules,
  table_then (map g.T.Located.placed c.args.book.now.rows) c.args.tables.now c.args.area.now c.tables.table-index Global c.args.ids.now.items c.tables.ids.items c.push_table.new.ids.items c.tables-test.true c.tables.invariant.1 c.in_ok-push_table.ensures,
)
