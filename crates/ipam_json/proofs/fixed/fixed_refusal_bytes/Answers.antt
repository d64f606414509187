use Rattle.ipam_json.proofs.FixedTexts.{put_together}
use Rattle.ipam_json.proofs.fixed.fixed_refusal_bytes.Goals as goal

pub returns : goal.returns
returns c =
    put_together c.args.refusal.now c.requires _ _ _ _ _ _ _ _ _ _ c.new-text.ensures c.push_all.ensures.items c.code.ensures c.as_bytes.ensures.value c.push_all-2.ensures.items c.push_all-3.ensures.items
    c.fixed_detail.ensures c.as_bytes-2.ensures.value c.push_all-4.ensures.items c.push_all-5.ensures.items
