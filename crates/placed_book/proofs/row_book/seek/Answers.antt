use Rattle.std.proofs.Common.{ℕ, ◌+◌, ◌-◌, ◌<◌, ◌/◌, length, arith, ap}
use Rattle.placed_book.proofs.RowPlaces.{place_short, place_past, place_upto}
use Rattle.placed_book.proofs.row_book.seek.Goals as goal

pub loop-low-init : goal.loop-low-init
loop-low-init g c = let id = g.T.HasId.id_of in record { high = omega arith; past = omega arith; upto = place_short id c.args.id c.args.items.now }

pub loop-low-preserved-then-id : goal.loop-low-preserved-then-id
loop-low-preserved-then-id g c =
    let id = g.T.HasId.id_of in
    let m : ℕ = c.loop-low.low + (c.loop-low.high - c.loop-low.low) / 2 in
    let e = ap id c.index-items-middle.is in
    let h : m < length c.args.items.now = omega arith in
    let p = place_past id 0 c.args.id c.args.items.now m c.index-items-middle.result c.requires h (omega arith) in
    record { high = omega arith; past = p; upto = c.loop-low.invariant.upto }

pub loop-low-preserved : goal.loop-low-preserved
loop-low-preserved g c =
    let id = g.T.HasId.id_of in
    let m : ℕ = c.loop-low.low + (c.loop-low.high - c.loop-low.low) / 2 in
    let e = ap id c.index-items-middle.is in
    let h : m < length c.args.items.now = omega arith in
    let p = place_upto id c.args.id c.args.items.now m c.index-items-middle.result h (omega arith) in
    record { high = omega arith; past = c.loop-low.invariant.past; upto = p }
