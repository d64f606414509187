use Rattle.pool_rest.proofs.Adding.{all_added}
use Rattle.pool_rest.proofs.table.add_kind.Goals as goal

pub returns : goal.returns
returns c =
    all_added c.args.kind _ _ _ _ _ _ _ c.add_part-2.result c.in_ok-add_rows.ensures c.in_ok-add_rows-2.ensures c.in_ok-add_row.ensures c.in_ok-add_row-2.ensures c.in_ok-add_part.ensures c.add_part-2.ensures
