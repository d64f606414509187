use Rattle.ipam_json.proofs.Pieces.{wrote, after, as_text}
use Rattle.pool_json.proofs.rows.put_named_asn.Goals as goal

pub returns : goal.returns
returns c =
    after (wrote c.in_ok-begin_object.ensures)
    (after c.in_ok-put_number.ensures
    (after c.in_ok-put_number-2.ensures
    (after (as_text c.as_str.ensures c.in_ok-put_text.ensures)
    (after c.in_ok-put_number-3.ensures
    (wrote c.end_object.ensures)))))
