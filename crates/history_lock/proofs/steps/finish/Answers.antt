use Rattle.std.proofs.Common.{rules, ◌≡◌, [], ◌∷◌, ap, sym, subst, ◌∙◌, Option, Some, None}
use Rattle.atomic_table.specs.Table.{rest}
use Rattle.history_lock.specs.declared.views.View.{View}
use Rattle.history_lock.specs.Views.{told, rested}
use Rattle.history_lock.specs.Machines.{meaning, Reaches}
use Rattle.history_lock.specs.Replay.{replay}
use Rattle.history_lock.proofs.Keeps.{passes, slot_of}
use Rattle.history_lock.proofs.steps.finish.Goals as goal

pub exchange-held-requires : goal.exchange-held-requires
exchange-held-requires g c =
    let v : View g.row.M-State.Denot g.row.M-Said.Denot = c.args.place.now.me.0 in
    let w : View g.row.M-State.Denot g.row.M-Said.Denot = told (g.M.Machine.kind c.args.reply.now) (g.M.Machine.said c.args.call.now.value) v in
    let two : c.publish.new.place.me ≡ (w, (0, None) ∷ []) = c.publish.ensures.view ∙ ap (λ cs. (w, cs)) c.requires.empty in
    let e = ap (λ m. m.1) two in
    (search rules, (None, e ∙ ap (λ cs. (0, None) ∷ rest cs) (sym e)))

pub unreachable-requires : goal.unreachable-requires
unreachable-requires g c =
    let v : View g.row.M-State.Denot g.row.M-Said.Denot = c.args.place.now.me.0 in
    let w : View g.row.M-State.Denot g.row.M-Said.Denot = told (g.M.Machine.kind c.args.reply.now) (g.M.Machine.said c.args.call.now.value) v in
    let two : c.publish.new.place.me ≡ (w, (0, None) ∷ []) = c.publish.ensures.view ∙ ap (λ cs. (w, cs)) c.requires.empty in
    c.in_default.not-None (sym (slot_of None c.exchange-held.result _ _ (sym (ap (λ m. m.1) two) ∙ c.exchange-held.ensures.2)))

pub fetch_add-turn-requires : goal.fetch_add-turn-requires
fetch_add-turn-requires g c =
    let W = meaning g.M.Machine.opening g.M.Machine.state g.M.Machine.log g.M.Machine.faults g.M.Machine.step in
    let v : View g.row.M-State.Denot g.row.M-Said.Denot = c.args.place.now.me.0 in
    let w : View g.row.M-State.Denot g.row.M-Said.Denot = told (g.M.Machine.kind c.args.reply.now) (g.M.Machine.said c.args.call.now.value) v in
    let two : c.publish.new.place.me ≡ (w, (0, None) ∷ []) = c.publish.ensures.view ∙ ap (λ cs. (w, cs)) c.requires.empty in
    let full : Option g.row.M.Denot = Some c.args.machine in
    let three : c.exchange-held.new.seat.me ≡ (w, (0, full) ∷ []) = c.exchange-held.ensures.3 ∙ (λ i. ((two i).0, (0, full) ∷ rest (two i).1)) in
    let view = ap (λ m. m.0) three in
    let log = c.requires.list ∙ ap (λ z. z.seen) (sym view) in
    let opening = c.requires.same ∙ ap (λ z. z.opening.value) (sym view) in
    let state = c.requires.replayed ∙ (λ i. replay g.M.Machine.step (opening i) (log i)) in
    let count : Reaches c.exchange-held.new.seat.me.0.total (g.M.Machine.faults c.args.machine) = subst (λ (z : View g.row.M-State.Denot g.row.M-Said.Denot). Reaches z.total (g.M.Machine.faults c.args.machine)) (sym view) c.requires.count in
    (search rules, search rules, passes W _ _ _ _ c.requires.turn.0 c.args.machine (ap (λ z. z.stage) view ∙ c.requires.turn.1) (ap (λ m. m.1) three) opening log state count)

pub returns-clause-view : goal.returns-clause-view
returns-clause-view g c =
    let v : View g.row.M-State.Denot g.row.M-Said.Denot = c.args.place.now.me.0 in
    let w : View g.row.M-State.Denot g.row.M-Said.Denot = told (g.M.Machine.kind c.args.reply.now) (g.M.Machine.said c.args.call.now.value) v in
    let two : c.publish.new.place.me ≡ (w, (0, None) ∷ []) = c.publish.ensures.view ∙ ap (λ cs. (w, cs)) c.requires.empty in
    let full : Option g.row.M.Denot = Some c.args.machine in
    let three : c.exchange-held.new.seat.me ≡ (w, (0, full) ∷ []) = c.exchange-held.ensures.3 ∙ (λ i. ((two i).0, (0, full) ∷ rest (two i).1)) in
    c.wake_at_door.ensures.view ∙ (c.wake.ensures.view ∙ (c.fetch_add-turn.ensures.2 ∙ (λ i. let u : View g.row.M-State.Denot g.row.M-Said.Denot = rested (three i).0 in (u, []))))
