use Rattle.ipam_data.specs.Hosts.{IsMasked}
use Rattle.stored_tables.specs.Reading.{masked_text}
use Rattle.stored_tables.proofs.ColumnLaws.{unread, no_first_host, no_last_host}
use Rattle.stored_tables.proofs.columns.read_ends.Goals as goal

pub returns-in-None : goal.returns-in-None
returns-in-None c = no_first_host c.args.start.now c.args.end.now (unread IsMasked masked_text c.args.start.now c.read_host_text.result c.in-None.is c.read_host_text.ensures)

pub returns-in-None-read_host_text : goal.returns-in-None-read_host_text
returns-in-None-read_host_text c = no_last_host c.args.start.now c.args.end.now (unread IsMasked masked_text c.args.end.now c.read_host_text-2.result c.in-None-read_host_text.is c.read_host_text-2.ensures)
