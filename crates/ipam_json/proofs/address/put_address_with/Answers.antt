use Rattle.std.proofs.Common.{◌∙◌, ap}
use Rattle.inet_num.specs.Net.{Address}
use Rattle.ipam_json.proofs.Pieces.{wrote, after, as_text, as_family}
use Rattle.ipam_json.proofs.address.put_address_with.Goals as goal

pub returns : goal.returns
returns c =
    after (wrote c.in_ok-begin_object.ensures)
    (after (as_text c.requires c.in_ok-put_text.ensures)
    (after (as_text c.as_str.ensures.text c.in_ok-put_text-2.ensures)
    (after (as_text c.as_str-2.ensures.text c.in_ok-put_text-3.ensures)
    (after (as_family (c.family.ensures.family ∙ ap (λ (a : Address). a.family) c.addr.ensures.addr) c.in_ok-put_family.ensures)
    (after c.in_ok-put_id.ensures
    (after c.in_ok-put_name.ensures
    (after c.in_ok-put_role.ensures
    (after c.in_ok-put_name-2.ensures
    (after c.in_ok-put_status.ensures
    (after c.in_ok-put_reference.ensures
    (wrote c.end_object.ensures)))))))))))
