use Rattle.ipam_json.proofs.Pieces.{wrote, after}
use Rattle.pool_json.proofs.rows.put_bare_asn.Goals as goal

pub returns : goal.returns
returns c =
    after (wrote c.in_ok-begin_object.ensures)
    (after c.in_ok-put_number.ensures
    (after c.in_ok-put_number-2.ensures
    (after c.in_ok-put_number-3.ensures
    (wrote c.end_object.ensures))))
