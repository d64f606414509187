use Rattle.ipam_json.proofs.Pieces.{wrote, after, as_string}
use Rattle.ipam_json.proofs.replies.put_refusal_with.Goals as goal

pub returns : goal.returns
returns c =
    after (wrote c.in_ok-begin_object.ensures)
    (after (wrote c.in_ok-key.ensures)
    (after (as_string c.code.ensures (wrote c.in_ok-string.ensures))
    (after (wrote c.in_ok-key-2.ensures)
    (after (as_string c.requires (wrote c.in_ok-string-2.ensures))
    (wrote c.end_object.ensures)))))
