use Rattle.std.proofs.Common.{◌≡◌, ap, sym, subst}
use Rattle.history_lock.specs.Seats.{SeatView, seat_view_of, IsJoined}
use Rattle.history_lock.specs.Views.{IsSoundView, joined}
use Rattle.history_lock.proofs.Parts.{joined_known}
use Rattle.history_lock.proofs.lock.Shared.join.Goals as goal

pub returns : goal.returns
returns g c =
    let p = c.left.inside.place in
    let q = c.right.inside.place in
    let view : c.join.new.place.me.0 ≡ joined p.me.0 q.me.0 = ap (λ m. m.0) c.join.ensures.views.0 in
    let k = joined_known p.table_id q.table_id p.me.0 q.me.0 c.left.invariant.0.3 c.right.invariant.0.3 (subst IsSoundView view c.join.ensures.views.1) in
    subst (λ (z : SeatView g.row.M-State.Denot g.row.M-Said.Denot × (SeatView g.row.M-State.Denot g.row.M-Said.Denot × SeatView g.row.M-State.Denot g.row.M-Said.Denot)). IsJoined z.0 z.1.0 z.1.1)
    (λ i. (c.left.view_is i, (c.right.view_is i, seat_view_of (sym c.join.ensures.table.0 i) (sym view i)))) k
