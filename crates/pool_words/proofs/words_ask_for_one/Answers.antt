use Rattle.pool_words.proofs.Unique.{words_ask_for_one}
use Rattle.pool_words.proofs.words_ask_for_one.Goals as goal

pub returns : goal.returns
returns c = words_ask_for_one
