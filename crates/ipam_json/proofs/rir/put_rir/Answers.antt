use Rattle.ipam_json.proofs.Pieces.{wrote, after, as_text}
use Rattle.ipam_json.proofs.rir.put_rir.Goals as goal

pub returns : goal.returns
returns c =
    after (wrote c.in_ok-begin_object.ensures)
    (after (as_text c.as_str.ensures.text c.in_ok-put_text.ensures)
    (after c.in_ok-put_id.ensures
    (after c.in_ok-put_flag.ensures
    (after (as_text c.as_str-2.ensures.text c.in_ok-put_text-2.ensures)
    (after (as_text c.as_str-3.ensures.text c.in_ok-put_text-3.ensures)
    (wrote c.end_object.ensures))))))
