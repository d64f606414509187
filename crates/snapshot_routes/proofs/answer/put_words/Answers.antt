use Rattle.ipam_json.proofs.Pieces.{wrote, after}
use Rattle.snapshot_routes.proofs.answer.put_words.Goals as goal

pub returns : goal.returns
returns c =
    after (wrote c.in_ok-begin_object.ensures)
    (after (wrote c.in_ok-key.ensures)
    (after (wrote c.in_ok-string.ensures)
    (after (wrote c.in_ok-key-2.ensures)
    (after (wrote c.in_ok-string-2.ensures)
    (wrote c.end_object.ensures)))))
