use Rattle.std.proofs.Common.{◌≡◌, ℕ, List, ap, sym, ◌∙◌, subst, take, length, IfOk, IfErr, arith, ◌≤◌, ◌<◌, ◌+◌, ◌-◌}
use Rattle.inet_num.specs.declared.Family.{Family}
use Rattle.inet_num.specs.Net.{Address}
use Rattle.block_space.specs.Usable.{addressed}
use Rattle.block_claim.specs.Claims.{IsServed, IsShort}
use Rattle.ipam_data.specs.declared.address.IpAddress.{IpAddress}
use Rattle.placed_book.specs.Book.{TabledRows}
use Rattle.register_tables.specs.Held.{state_of}
use Rattle.register_claims.proofs.HostLists.{range_percent}
use Rattle.register_claims.proofs.hosts.figure_of_range.Goals as goal

pub of_range-requires-clause-last_family : goal.of_range-requires-clause-last_family
of_range-requires-clause-last_family c = ap (λ (a : Address). a.family) c.end.ensures.end ∙ sym c.requires.family ∙ sym c.hosts_of_range-hosts.ensures.family

pub of_range-requires-clause-order : goal.of_range-requires-clause-order
of_range-requires-clause-order c =
    let e : c.start-2.result.value ≡ c.args.row.now.ends.start.value = ap (λ (a : Address). a.value) c.start-2.ensures.start in
    let f : c.end.result.value ≡ c.args.row.now.ends.end.value = ap (λ (a : Address). a.value) c.end.ensures.end in
    let o = c.requires.order in
    omega arith

pub of_range-requires-clause-few : goal.of_range-requires-clause-few
of_range-requires-clause-few c =
    let e : c.start-2.result.value ≡ c.args.row.now.ends.start.value = ap (λ (a : Address). a.value) c.start-2.ensures.start in
    let f : c.end.result.value ≡ c.args.row.now.ends.end.value = ap (λ (a : Address). a.value) c.end.ensures.end in
    let o = c.requires.order in
    let n = c.requires.size in
    omega arith

pub returns : goal.returns
returns c =
    range_percent (state_of c.args.row_tables.now) c.addresses.result.now.rows c.args.row.now _ c.start-2.result.value c.end.result.value c.of_range.result (ap (λ (b : TabledRows IpAddress). b.rows) c.addresses.ensures.book)
    c.hosts_of_range-hosts.ensures.hosts (ap (λ (a : Address). a.value) c.start-2.ensures.start) (ap (λ (a : Address). a.value) c.end.ensures.end) c.if-row.false c.of_range.ensures
