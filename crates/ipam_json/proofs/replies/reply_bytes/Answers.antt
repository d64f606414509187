use Rattle.std.proofs.Common.{◌∙◌}
use Rattle.ipam_json.specs.Replies.{reply_data}
use Rattle.ipam_json.proofs.Pieces.{written_is}
use Rattle.ipam_json.proofs.replies.reply_bytes.Goals as goal

pub returns : goal.returns
returns c =
    written_is (reply_data c.args.reply.now c.args.links.now) _ _ _ (c.new-writer.ensures.before ∙ c.in_ok-with_capacity.ensures.items) c.new-writer.ensures.tokens
    c.in_ok-put_reply.ensures c.into_inner.ensures.items
