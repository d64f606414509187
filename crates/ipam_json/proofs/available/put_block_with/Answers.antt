use Rattle.ipam_json.proofs.Pieces.{wrote, after, as_text, as_family}
use Rattle.ipam_json.proofs.available.put_block_with.Goals as goal

pub returns : goal.returns
returns c =
    after (wrote c.in_ok-begin_object.ensures)
    (after (as_family c.family.ensures.family c.in_ok-put_family.ensures)
    (after (as_text c.requires c.in_ok-put_text.ensures)
    (after c.in_ok-put_reference.ensures
    (wrote c.end_object.ensures))))
