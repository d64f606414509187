use Rattle.std.proofs.Common.{ap}
use Rattle.ipam_data.specs.declared.address.IpAddress.{IpAddress}
use Rattle.placed_book.specs.Book.{TabledRows}
use Rattle.register_tables.specs.Held.{state_of}
use Rattle.register_claims.proofs.HostLists.{listed_in_range}
use Rattle.register_claims.proofs.hosts.usable_of_pieces.Goals as goal

pub returns : goal.returns
returns c = listed_in_range (state_of c.args.row_tables.now) c.addresses.result.now.rows c.args.row.now _ c.args.pieces.now _ c.args.limit c.range_addrs.result (ap (λ (b : TabledRows IpAddress). b.rows) c.addresses.ensures.book) c.hosts_of_range-hosts.ensures.hosts c.requires.numbers c.hosts_of_range-hosts.ensures.family c.range_addrs.ensures
