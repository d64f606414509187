use Rattle.std.proofs.Common.{ap, arith, inr, length}
use Rattle.std.specs.Vec.Iter.{into_iter_items}
use Rattle.number_pools.specs.Rows.{range_id}
use Rattle.pool_rows.proofs.Filling.{next_below, one_put}
use Rattle.pool_rows.proofs.opening.put_all.Goals as goal

pub put-requires-clause-room : goal.put-requires-clause-room
put-requires-clause-room c = let n = ap length c.in-Some.ensures.items in let f = c.row.invariant.fits in omega arith

pub put-requires-clause-id : goal.put-requires-clause-id
put-requires-clause-id c =
    let b = (next_below range_id c.args.rows.items c.row.book.rows (into_iter_items c.row.rest) c.in-Some.row (into_iter_items c.next.new.self) c.requires.rises c.row.invariant.whole c.in-Some.ensures.items).1 in omega arith

pub put-requires-clause-fits : goal.put-requires-clause-fits
put-requires-clause-fits c =
    inr (next_below range_id c.args.rows.items c.row.book.rows (into_iter_items c.row.rest) c.in-Some.row (into_iter_items c.next.new.self) c.requires.rises c.row.invariant.whole c.in-Some.ensures.items).0

pub row-preserved : goal.row-preserved
row-preserved c =
    let n = ap length c.in-Some.ensures.items in
    let f = c.row.invariant.fits in
    let s = c.put.ensures.spare in
    record {
      whole = one_put range_id c.args.rows.items c.row.book.rows c.put.new.self.rows (into_iter_items c.row.rest) c.in-Some.row (into_iter_items c.next.new.self) c.requires.rises c.row.invariant.whole c.in-Some.ensures.items c.put.ensures.rows;
      fits = omega arith;
    }
