use Rattle.std.proofs.Common.{arith}
use Rattle.ip_addresses.proofs.Sharing.{next_pair, this_pair, no_more_pairs}
use Rattle.ip_addresses.proofs.AddressBookAddressRules.coincide.Goals as goal

pub returns-in-Some : goal.returns-in-Some
returns-in-Some g c =
    let len = c.len-count.ensures.len in
    let below = c.rows-test.true in
    this_pair c.args.table c.args.self.now.rows c.rows.index c.in-Some.pair (omega arith) c.in-Some.ensures c.rows.invariant

pub rows-preserved : goal.rows-preserved
rows-preserved g c =
    let len = c.len-count.ensures.len in
    let below = c.rows-test.true in
    next_pair c.args.table c.args.self.now.rows c.rows.index (omega arith) c.in_default.ensures c.rows.invariant

pub returns : goal.returns
returns g c =
    let len = c.len-count.ensures.len in
    let above = c.rows-test.false in
    no_more_pairs c.args.table c.args.self.now.rows c.rows.index (omega arith) c.rows.invariant
