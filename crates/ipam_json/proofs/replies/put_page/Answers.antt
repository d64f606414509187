use Rattle.ipam_json.proofs.Pieces.{wrote, after}
use Rattle.ipam_json.proofs.replies.put_page.Goals as goal

pub returns : goal.returns
returns c =
    after (wrote c.in_ok-begin_object.ensures)
    (after c.in_ok-put_number.ensures
    (after c.in_ok-put_link.ensures
    (after c.in_ok-put_link-2.ensures
    (after (wrote c.in_ok-key.ensures)
    (after c.in_ok-put_views.ensures
    (wrote c.end_object.ensures))))))
