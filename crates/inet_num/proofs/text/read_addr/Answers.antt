use Rattle.inet_num.proofs.Readings.{no_address}
use Rattle.inet_num.proofs.text.read_addr.Goals as goal

pub returns-in-None-read_groups-clause-fault : goal.returns-in-None-read_groups-clause-fault
returns-in-None-read_groups-clause-fault c = record { none = no_address c.args.text.now c.in-None.ensures.none c.in-None-read_groups.ensures.none; is = c.address_fault.ensures }
