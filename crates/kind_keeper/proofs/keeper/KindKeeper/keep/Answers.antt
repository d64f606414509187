use Rattle.std.proofs.Common.{ap, ◌∙◌}
use Rattle.stored_tables.specs.declared.tables.Tables.{Tables}
use Rattle.kind_keeper.specs.Shelves.{all_rows}
use Rattle.kind_keeper.proofs.Filing.{built, same_tables}
use Rattle.kind_keeper.proofs.keeper.KindKeeper.keep.Goals as goal

pub returns-clause-ok : goal.returns-clause-ok
returns-clause-ok c =
    let copy = c.in_ok-copy.copy in
    let tables = c.args.tables.now in
    let puts = c.into_vec-rows.ensures ∙ ap (λ (t : Tables). t.rows) c.in_ok-copy.ensures in
    let empty = c.reserve.ensures.rows ∙ c.in_ok-shelves.ensures.rows in
    let rows = built (all_rows c.put_rows.new.shelves.items) (all_rows c.reserve.new.shelves.items) c.into_vec-rows.result.items tables.rows c.requires.rows puts empty c.put_rows.ensures.rows in
    same_tables tables copy c.into_vec.result.items (all_rows c.put_rows.new.shelves.items) c.in_ok-copy.ensures c.into_vec.ensures rows
