use Rattle.ipam_json.specs.Replies.{view_data}
use Rattle.ipam_json.proofs.Pieces.{after, as_pieces, rows_more}
use Rattle.ipam_json.proofs.rows.put_rows.Goals as goal

pub loop-view-preserved : goal.loop-view-preserved
loop-view-preserved c =
    as_pieces (rows_more view_data c.args.views.now c.loop-view.view-index c.view-item.result c.loop-view-test.true c.view-item.is)
    (after c.loop-view.invariant c.in_ok-put_view.ensures)
