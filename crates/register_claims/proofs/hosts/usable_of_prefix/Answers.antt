use Rattle.std.proofs.Common.{◌≡◌, ℕ, List, ap, sym, ◌∙◌, subst, take, length, IfOk, IfErr, arith, ◌≤◌, ◌<◌, ◌+◌, ◌-◌}
use Rattle.inet_num.specs.declared.Family.{Family}
use Rattle.inet_num.specs.Net.{Address}
use Rattle.block_space.specs.Usable.{addressed}
use Rattle.block_claim.specs.Claims.{IsServed, IsShort}
use Rattle.ipam_data.specs.declared.address.IpAddress.{IpAddress}
use Rattle.placed_book.specs.Book.{TabledRows}
use Rattle.register_tables.specs.Held.{state_of}
use Rattle.register_claims.proofs.HostLists.{usable_of_rows}
use Rattle.register_claims.proofs.hosts.usable_of_prefix.Goals as goal

pub returns : goal.returns
returns c =
    subst (λ (xs : List ℕ). IfOk c.available_addrs.result (λ v. v.items ≡ take c.args.limit (addressed c.args.row.now.block.family xs)))
    (usable_of_rows (state_of c.args.row_tables.now) c.addresses.result.now.rows c.args.row.now _ c.args.held.now (ap (λ (b : TabledRows IpAddress). b.rows) c.addresses.ensures.book) c.hosts_of_prefix-hosts.ensures.hosts c.requires) c.available_addrs.ensures
