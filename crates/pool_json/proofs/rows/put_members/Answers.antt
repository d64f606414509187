use Rattle.pool_json.specs.Rows.{member_data}
use Rattle.ipam_json.proofs.Pieces.{wrote, after, as_pieces, rows_end}
use Rattle.pool_json.proofs.rows.put_members.Goals as goal

pub returns : goal.returns
returns c =
    after (wrote c.in_ok-begin_array.ensures)
    (as_pieces (rows_end (member_data c.args.kind) c.args.rows.now)
    (after c.in_ok-put_each_member.ensures
    (wrote c.end_array.ensures)))
