use Rattle.std.proofs.Common.{rules, ◌≡◌, ◌%◌, ◌^◌, ◌∷◌, ap, sym, subst, ◌∙◌, Some}
use Rattle.atomic_table.specs.Table.{rest}
use Rattle.history_lock.specs.declared.views.Stage.TheVariants.{Waits}
use Rattle.history_lock.specs.declared.views.View.{View}
use Rattle.history_lock.specs.Moves.{IsTaken}
use Rattle.history_lock.specs.Machines.{meaning}
use Rattle.history_lock.proofs.Keeps.{looks, rings, full_of, taken_by}
use Rattle.history_lock.proofs.steps.await_turn.Goals as goal

pub load-turn-requires : goal.load-turn-requires
load-turn-requires g c = let d = c.draw-ticket.ensures.drawn in (search rules, search rules, looks _ _ _ _ _ d.0 (ap (λ m. m.0.stage) (c.loop.invariant.2 ∙ d.2)))

pub exchange-requires : goal.exchange-requires
exchange-requires g c = let d = c.draw-ticket.ensures.drawn in let is : c.loop.place.me.0.stage ≡ Waits d.0 = ap (λ m. m.0.stage) (c.loop.invariant.2 ∙ d.2) in
    let hit : c.load-turn.result ≡ d.0 % 2 ^ 64 = search rules in let got = (c.load-turn.ensures.2 d.0 is).1 hit in
    let e = ap (λ m. m.1) got.2 in
    (search rules, (Some got.0, e ∙ ap (λ cs. (0, Some got.0) ∷ rest cs) (sym e)))

pub returns-in-Some-exchange-clause-machine : goal.returns-in-Some-exchange-clause-machine
returns-in-Some-exchange-clause-machine g c = let d = c.draw-ticket.ensures.drawn in let is : c.loop.place.me.0.stage ≡ Waits d.0 = ap (λ m. m.0.stage) (c.loop.invariant.2 ∙ d.2) in
    let hit : c.load-turn.result ≡ d.0 % 2 ^ 64 = search rules in let got = (c.load-turn.ensures.2 d.0 is).1 hit in
    let e = ap (λ m. m.1) got.2 in let same = full_of got.0 c.in-Some-exchange.machine _ _ _ (sym e ∙ c.exchange.ensures.2) c.in-Some-exchange.is in
    let W = meaning g.M.Machine.opening g.M.Machine.state g.M.Machine.log g.M.Machine.faults g.M.Machine.step in
    taken_by W d.0 _ _ (subst (λ (z : View g.row.M-State.Denot g.row.M-Said.Denot × g.row.M.Denot). IsTaken W z.0 z.1) (λ i. (ap (λ m. m.0) (c.loop.invariant.2 ∙ d.2) i, same i)) got.1)

pub swap-requires : goal.swap-requires
swap-requires g c =
    let W = meaning g.M.Machine.opening g.M.Machine.state g.M.Machine.log g.M.Machine.faults g.M.Machine.step in
    let b = c.bell_of-bell.ensures in (search rules, search rules, rings W _ _ _ b.0 _ _ _ b.1)
