use Rattle.std.proofs.Common.{◌∙◌, ap}
use Rattle.inet_num.specs.Net.{Address}
use Rattle.ipam_json.proofs.Pieces.{wrote, after, as_text, as_number, as_family}
use Rattle.ipam_json.proofs.range.put_range_with.Goals as goal

pub returns : goal.returns
returns c =
    after (wrote c.in_ok-begin_object.ensures)
    (after (as_text c.as_str.ensures.text c.in_ok-put_text.ensures)
    (after (as_text c.requires.end c.in_ok-put_text-2.ensures)
    (after (as_family (c.family.ensures.family ∙ ap (λ (a : Address). a.family) c.start.ensures.start) c.in_ok-put_family.ensures)
    (after c.in_ok-put_id.ensures
    (after c.in_ok-put_flag.ensures
    (after c.in_ok-put_flag-2.ensures
    (after c.in_ok-put_reference.ensures
    (after (as_number c.range_size.ensures c.in_ok-put_number.ensures)
    (after (as_text c.requires.start c.in_ok-put_text-3.ensures)
    (after c.in_ok-put_name.ensures
    (after c.in_ok-put_status.ensures
    (after c.in_ok-put_reference-2.ensures
    (wrote c.end_object.ensures)))))))))))))
