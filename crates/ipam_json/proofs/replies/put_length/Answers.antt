use Rattle.ipam_json.proofs.Pieces.{wrote, after}
use Rattle.ipam_json.proofs.replies.put_length.Goals as goal

pub returns : goal.returns
returns c =
    after (wrote c.in_ok-begin_object.ensures)
    (after (wrote c.in_ok-key.ensures)
    (after (wrote c.in_ok-u64.ensures)
    (wrote c.end_object.ensures)))
