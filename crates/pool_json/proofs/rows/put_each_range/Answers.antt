use Rattle.ipam_json.proofs.Pieces.{after, as_pieces, rows_more}
use Rattle.pool_json.specs.Rows.{range_data}
use Rattle.pool_json.proofs.rows.put_each_range.Goals as goal

pub loop-row-preserved : goal.loop-row-preserved
loop-row-preserved c =
    as_pieces (rows_more range_data c.args.rows.now c.loop-row.row-index c.row-item.result c.loop-row-test.true c.row-item.is)
    (after c.loop-row.invariant c.in_ok-put_range.ensures)
