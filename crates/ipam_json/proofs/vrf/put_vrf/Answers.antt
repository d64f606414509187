use Rattle.ipam_json.proofs.Pieces.{wrote, after, as_text}
use Rattle.ipam_json.proofs.vrf.put_vrf.Goals as goal

pub returns : goal.returns
returns c =
    after (wrote c.in_ok-begin_object.ensures)
    (after (as_text c.as_str.ensures.text c.in_ok-put_text.ensures)
    (after c.in_ok-put_flag.ensures
    (after c.in_ok-put_id.ensures
    (after (as_text c.as_str-2.ensures.text c.in_ok-put_text-2.ensures)
    (after c.in_ok-put_name.ensures
    (after c.in_ok-put_rd.ensures
    (wrote c.end_object.ensures)))))))
