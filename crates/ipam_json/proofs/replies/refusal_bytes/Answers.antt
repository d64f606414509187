use Rattle.std.proofs.Common.{◌∙◌, Some}
use Rattle.ipam_json.specs.Replies.{refusal_data}
use Rattle.ipam_json.proofs.Pieces.{written_is}
use Rattle.ipam_json.proofs.replies.refusal_bytes.Goals as goal

pub returns : goal.returns
returns c =
    written_is (Some (refusal_data c.args.refusal.now)) _ _ _ (c.new-writer.ensures.before ∙ c.in_ok-with_capacity.ensures.items) c.new-writer.ensures.tokens
    c.in_ok-put_refusal.ensures c.into_inner.ensures.items
