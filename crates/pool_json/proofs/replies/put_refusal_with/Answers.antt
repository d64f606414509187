use Rattle.pool_json.proofs.Told.{as_words}
use Rattle.pool_json.proofs.replies.put_refusal_with.Goals as goal

pub returns : goal.returns
returns c = as_words c.code.ensures c.requires c.put_words.ensures
