use Rattle.std.proofs.Common.{◌≡◌, ℕ, List, ap, sym, ◌∙◌, subst, take, length, IfOk, IfErr, arith, ◌≤◌, ◌<◌, ◌+◌, ◌-◌}
use Rattle.inet_num.specs.declared.Family.{Family}
use Rattle.inet_num.specs.Net.{Address}
use Rattle.block_space.specs.Usable.{addressed}
use Rattle.block_claim.specs.Claims.{IsServed, IsShort}
use Rattle.ipam_data.specs.declared.address.IpAddress.{IpAddress}
use Rattle.placed_book.specs.Book.{TabledRows}
use Rattle.register_tables.specs.Held.{state_of}
use Rattle.register_claims.proofs.HostLists.{usable_of_rows}
use Rattle.register_claims.proofs.HostClaims.{served_mask, served_count}
use Rattle.register_claims.proofs.hosts.claimed_of_prefix.Goals as goal

pub returns-clause-ok : goal.returns-clause-ok
returns-clause-ok c =
    subst (λ (xs : List ℕ). IfOk c.plan_addrs.result (λ v. IsServed c.args.n (addressed c.args.row.now.block.family xs) v.items))
    (usable_of_rows (state_of c.args.row_tables.now) c.addresses.result.now.rows c.args.row.now _ c.args.held.now (ap (λ (b : TabledRows IpAddress). b.rows) c.addresses.ensures.book) c.hosts_of_prefix-hosts.ensures.hosts c.requires) c.plan_addrs.ensures.ok

pub returns-clause-err : goal.returns-clause-err
returns-clause-err c =
    subst (λ (xs : List ℕ). IfErr c.plan_addrs.result (IsShort c.args.n (length xs)))
    (usable_of_rows (state_of c.args.row_tables.now) c.addresses.result.now.rows c.args.row.now _ c.args.held.now (ap (λ (b : TabledRows IpAddress). b.rows) c.addresses.ensures.book) c.hosts_of_prefix-hosts.ensures.hosts c.requires) c.plan_addrs.ensures.err

pub returns-clause-count : goal.returns-clause-count
returns-clause-count c = served_count c.args.row.now.block.len c.args.n c.args.row.now.block.family _ c.plan_addrs.result c.plan_addrs.ensures.ok

pub returns-clause-mask : goal.returns-clause-mask
returns-clause-mask c = served_mask c.args.row.now.block.len c.args.n c.args.row.now.block.family _ c.plan_addrs.result c.bounds.ensures.short c.plan_addrs.ensures.ok
