use Rattle.ipam_json.specs.Replies.{view_data}
use Rattle.ipam_json.proofs.Pieces.{wrote, after, as_pieces, rows_end}
use Rattle.ipam_json.proofs.replies.put_views.Goals as goal

pub returns : goal.returns
returns c =
    after (wrote c.in_ok-begin_array.ensures)
    (as_pieces (rows_end view_data c.args.views.now)
    (after c.in_ok-put_rows.ensures
    (wrote c.end_array.ensures)))
