use Rattle.std.proofs.Common.{◌∙◌, Some}
use Rattle.ipam_json.proofs.Pieces.{written_is}
use Rattle.pool_json.specs.Replies.{words_data}
use Rattle.pool_json.proofs.replies.words_bytes.Goals as goal

pub returns : goal.returns
returns c =
    written_is (Some (words_data c.args.code.now c.args.detail.now)) _ _ _ (c.new-writer.ensures.before ∙ c.in_ok-with_capacity.ensures.items) c.new-writer.ensures.tokens
    c.in_ok-put_words.ensures c.into_inner.ensures.items
