use Rattle.ipam_json.proofs.Pieces.{wrote, after, as_number}
use Rattle.ipam_json.proofs.replies.put_percent.Goals as goal

pub returns : goal.returns
returns c =
    after (wrote c.in_ok-begin_object.ensures)
    (after (as_number c.from.ensures c.in_ok-put_number.ensures)
    (wrote c.end_object.ensures))
