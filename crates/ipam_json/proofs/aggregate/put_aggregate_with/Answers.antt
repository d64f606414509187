use Rattle.ipam_json.proofs.Pieces.{wrote, after, as_text, as_family}
use Rattle.ipam_json.proofs.aggregate.put_aggregate_with.Goals as goal

pub returns : goal.returns
returns c =
    after (wrote c.in_ok-begin_object.ensures)
    (after (as_text c.as_str.ensures.text c.in_ok-put_text.ensures)
    (after (as_family c.family.ensures.family c.in_ok-put_family.ensures)
    (after c.in_ok-put_id.ensures
    (after (as_text c.requires c.in_ok-put_text-2.ensures)
    (after c.in_ok-put_count.ensures
    (wrote c.end_object.ensures))))))
