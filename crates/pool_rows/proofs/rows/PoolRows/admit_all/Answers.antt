use Rattle.std.proofs.Common.{ap, arith, length}
use Rattle.std.specs.Vec.Iter.{into_iter_items}
use Rattle.number_pools.specs.Rows.{member_id}
use Rattle.pool_rows.proofs.Filling.{next_below, one_admitted}
use Rattle.pool_rows.proofs.rows.PoolRows.admit_all.Goals as goal

pub admit-requires-clause-room : goal.admit-requires-clause-room
admit-requires-clause-room c = let n = ap length c.in-Some.ensures.items in let f = c.row.invariant.room in omega arith

pub admit-requires-clause-key_room : goal.admit-requires-clause-key_room
admit-requires-clause-key_room c = let n = ap length c.in-Some.ensures.items in let f = c.row.invariant.key_room in omega arith

pub admit-requires-clause-id : goal.admit-requires-clause-id
admit-requires-clause-id c =
    let b = (next_below member_id c.args.members.items c.row.self.pools.members.rows (into_iter_items c.row.rest) c.in-Some.member (into_iter_items c.next.new.self) c.requires.rises c.row.invariant.whole c.in-Some.ensures.items).1 in omega arith

pub admit-requires-clause-below : goal.admit-requires-clause-below
admit-requires-clause-below c =
    (next_below member_id c.args.members.items c.row.self.pools.members.rows (into_iter_items c.row.rest) c.in-Some.member (into_iter_items c.next.new.self) c.requires.rises c.row.invariant.whole c.in-Some.ensures.items).0

pub row-preserved : goal.row-preserved
row-preserved c =
    one_admitted c.args.self.now.pools c.args.members.items c.row.self c.admit.new.self (into_iter_items c.row.rest) c.in-Some.member (into_iter_items c.next.new.self) c.requires.rises c.row.invariant c.in-Some.ensures.items
    c.admit.ensures.pools c.admit.ensures.room c.admit.ensures.key_room
