use Rattle.inet_num.proofs.Readings.{reading_is_one}
use Rattle.inet_num.proofs.text.one_reading.Goals as goal

pub returns : goal.returns
returns c = reading_is_one
