use Rattle.inet_num.proofs.Readings.{canonical_is_one}
use Rattle.inet_num.proofs.text.canonical_text_is_one.Goals as goal

pub returns : goal.returns
returns c = canonical_is_one
