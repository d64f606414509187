use Rattle.prefix_list.proofs.Readings as readings
use Rattle.prefix_list.proofs.reading.reading_is_one.Goals as goal

pub returns : goal.returns
returns c = readings.reading_is_one
