use Rattle.inet_num.proofs.RoundTrip.{written_address}
use Rattle.inet_num.proofs.text.written_address_is_read.Goals as goal

pub returns : goal.returns
returns c = written_address
