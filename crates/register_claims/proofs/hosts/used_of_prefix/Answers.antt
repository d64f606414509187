use Rattle.std.proofs.Common.{◌≡◌, ℕ, List, ap, sym, ◌∙◌, subst, take, length, IfOk, IfErr, arith, ◌≤◌, ◌<◌, ◌+◌, ◌-◌}
use Rattle.inet_num.specs.declared.Family.{Family}
use Rattle.inet_num.specs.Net.{Address}
use Rattle.block_space.specs.Usable.{addressed}
use Rattle.block_claim.specs.Claims.{IsServed, IsShort}
use Rattle.ipam_data.specs.declared.address.IpAddress.{IpAddress}
use Rattle.placed_book.specs.Book.{TabledRows}
use Rattle.register_tables.specs.Held.{state_of}
use Rattle.register_claims.proofs.HostLists.{hosts_percent}
use Rattle.register_claims.proofs.hosts.used_of_prefix.Goals as goal

pub returns : goal.returns
returns c =
    hosts_percent (state_of c.args.row_tables.now) c.addresses.result.now.rows c.args.row.now _ c.args.marked.now c.of_hosts.result (ap (λ (b : TabledRows IpAddress). b.rows) c.addresses.ensures.book)
    c.hosts_of_prefix-hosts.ensures.hosts c.requires.spans c.requires.unmarked c.requires.plain c.of_hosts.ensures
