use Rattle.std.proofs.Common.{List, ℕ, ap, subst, length, IfErr}
use Rattle.block_claim.specs.Claims.{IsShort}
use Rattle.ipam_data.specs.declared.address.IpAddress.{IpAddress}
use Rattle.placed_book.specs.Book.{TabledRows}
use Rattle.register_tables.specs.Held.{state_of}
use Rattle.register_claims.proofs.HostLists.{untaken_of_rows, served_in_range}
use Rattle.register_claims.proofs.HostClaims.{served_mask, served_count}
use Rattle.ipam_data.specs.Claims.{usable_of_range}
use Rattle.register_claims.proofs.hosts.claimed_of_range.Goals as goal

pub returns-clause-ok : goal.returns-clause-ok
returns-clause-ok c = (served_in_range (state_of c.args.row_tables.now) c.addresses.result.now.rows c.args.row.now _ c.args.pieces.now _ c.args.n c.plan_range.result (ap (λ (b : TabledRows IpAddress). b.rows) c.addresses.ensures.book) c.hosts_of_range-hosts.ensures.hosts c.requires.numbers c.hosts_of_range-hosts.ensures.family c.plan_range.ensures.ok)

pub returns-clause-err : goal.returns-clause-err
returns-clause-err c =
    subst (λ (xs : List ℕ). IfErr c.plan_range.result (IsShort c.args.n (length xs)))
    (untaken_of_rows (state_of c.args.row_tables.now) c.addresses.result.now.rows c.args.row.now _ c.args.pieces.now (ap (λ (b : TabledRows IpAddress). b.rows) c.addresses.ensures.book) c.hosts_of_range-hosts.ensures.hosts c.requires.numbers) c.plan_range.ensures.err

pub returns-clause-count : goal.returns-clause-count
returns-clause-count c =
    served_count c.args.row.now.ends.len c.args.n c.args.row.now.ends.start.family (usable_of_range (state_of c.args.row_tables.now) c.args.row.now) c.plan_range.result
    (served_in_range (state_of c.args.row_tables.now) c.addresses.result.now.rows c.args.row.now _ c.args.pieces.now _ c.args.n c.plan_range.result (ap (λ (b : TabledRows IpAddress). b.rows) c.addresses.ensures.book) c.hosts_of_range-hosts.ensures.hosts c.requires.numbers c.hosts_of_range-hosts.ensures.family c.plan_range.ensures.ok)

pub returns-clause-mask : goal.returns-clause-mask
returns-clause-mask c =
    served_mask c.args.row.now.ends.len c.args.n c.args.row.now.ends.start.family (usable_of_range (state_of c.args.row_tables.now) c.args.row.now) c.plan_range.result c.start.ensures.bounds.start_short
    (served_in_range (state_of c.args.row_tables.now) c.addresses.result.now.rows c.args.row.now _ c.args.pieces.now _ c.args.n c.plan_range.result (ap (λ (b : TabledRows IpAddress). b.rows) c.addresses.ensures.book) c.hosts_of_range-hosts.ensures.hosts c.requires.numbers c.hosts_of_range-hosts.ensures.family c.plan_range.ensures.ok)
