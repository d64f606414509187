use Rattle.std.proofs.Common.{Box, Global, ◌≡◌, ℕ, ap, sym, subst, ◌∙◌}
use Rattle.history_lock.specs.declared.views.View.{View}
use Rattle.history_lock.specs.Seats.{SeatView, seat_view_of, IsCall}
use Rattle.history_lock.specs.Views.{told, rested, leading}
use Rattle.history_lock.specs.Machines.{meaning, IsAct}
use Rattle.history_lock.specs.Views.{IsSoundView}
use Rattle.history_lock.proofs.Keeps.{called}
use Rattle.history_lock.proofs.Parts.{knows_called}
use Rattle.history_lock.proofs.lock.Shared.call.Goals as goal

pub invariant_of-result : goal.invariant_of-result
invariant_of-result g c =
    let W = meaning (λ (b : Box g.row.M.Denot Global). g.M.Machine.opening b.value) (λ b. g.M.Machine.state b.value) (λ b. g.M.Machine.log b.value) (λ b. g.M.Machine.faults b.value) g.M.Machine.step in
    let v : View g.row.M-State.Denot g.row.M-Said.Denot = c.seat.inside.place.me.0 in
    let x = c.take_turn-machine.result in
    let kind = g.M.Machine.kind c.act-reply.result in
    let call = g.M.Machine.said c.args.call in
    let t = c.take_turn-machine.ensures.view.0 in
    let view : c.finish.new.place.me.0 ≡ rested (told kind call (leading W t x v)) = ap (λ m. m.0) c.finish.ensures.view ∙ (λ i. let u : View g.row.M-State.Denot g.row.M-Said.Denot = rested (told kind (g.M.Machine.said (c.of-said.ensures i)) (c.take_turn-machine.ensures.view.1 i).0) in u) in
    let inv = c.seat.invariant in
    let k = subst IsSoundView (sym view) (knows_called W v t x kind call inv.0.3 inv.0.0 c.take_turn-machine.ensures.machine) in
    ((ap (λ z. z.live) view ∙ inv.0.0, ap (λ z. z.stage) view, ap (λ m. m.1) c.finish.ensures.view, k), inv.1 ∙ ap (λ z. z.number) (sym view), inv.2 ∙ ap (λ z. z.spare) (sym view), inv.3 ∙ ap (λ z. z.weight) (sym view))

pub returns : goal.returns
returns g c =
    let W = meaning (λ (b : Box g.row.M.Denot Global). g.M.Machine.opening b.value) (λ b. g.M.Machine.state b.value) (λ b. g.M.Machine.log b.value) (λ b. g.M.Machine.faults b.value) g.M.Machine.step in
    let p = c.seat.inside.place in
    let v : View g.row.M-State.Denot g.row.M-Said.Denot = p.me.0 in
    let x = c.take_turn-machine.result in
    let y = c.act-reply.new.self in
    let kind = g.M.Machine.kind c.act-reply.result in
    let call = g.M.Machine.said c.args.call in
    let answer = g.M.Machine.answer c.act-reply.result in
    let t = c.take_turn-machine.ensures.view.0 in
    let fallible = g.M.Machine.fallible in
    let acted : IsAct W fallible x y v.number call answer kind = subst (λ (w : ℕ). IsAct W fallible x y w call answer kind) c.seat.invariant.1 c.act-reply.ensures in
    let k = called W fallible p.table_id v t x y call answer kind c.entries-before.result c.take_turn-machine.ensures.machine c.seat.invariant.0.0 acted c.entries-before.ensures.count.0 in
    let lock : c.finish.new.place.table_id ≡ p.table_id = c.finish.ensures.table.0 ∙ c.take_turn-machine.ensures.table.0 in
    let view : c.finish.new.place.me.0 ≡ rested (told kind call (leading W t x v)) = ap (λ m. m.0) c.finish.ensures.view ∙ (λ i. let u : View g.row.M-State.Denot g.row.M-Said.Denot = rested (told kind (g.M.Machine.said (c.of-said.ensures i)) (c.take_turn-machine.ensures.view.1 i).0) in u) in
    subst (λ (z : SeatView g.row.M-State.Denot g.row.M-Said.Denot × SeatView g.row.M-State.Denot g.row.M-Said.Denot). IsCall g.M.Machine.step fallible z.0 z.1 call answer kind c.entries-before.result)
    (λ i. (c.seat.view_is i, seat_view_of (sym lock i) (sym view i))) k
