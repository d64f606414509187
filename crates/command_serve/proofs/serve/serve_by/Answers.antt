use Rattle.std.proofs.Common.{rules, ◌≡◌, All, ap, sym, subst, refl, ◌∙◌, length, arith}
use Rattle.history_lock.specs.Replay.{own_entries}
use Rattle.machine_server.specs.Hired.{AreFresh, AreHired}
use Rattle.machine_server.proofs.Popped.{over}
use Rattle.machine_server.proofs.Worked.{crew_ready}
use Rattle.machine_workers.specs.Workers.{IsReady}
use Rattle.machine_serving.proofs.Ran.{of_served}
use Rattle.machine_serving.proofs.Unran.{of_unserved}
use Rattle.stored_tables.specs.declared.opening.OpenFault.TheVariants.{Keeper}
use Rattle.rest_ipam.specs.Protocol.{seen_protocol}
use Rattle.register_store.specs.Meaning.{register_opener}
use Rattle.command_serve.proofs.serve.serve_by.Goals as goal

pub work_all-requires-clause-ready : goal.work_all-requires-clause-ready
work_all-requires-clause-ready g c κs within =
    let b = c.in-Ok.begun in
    subst (All (λ w. IsReady g.L.Door.Lane.told b.shared w.seat w.lane)) (sym c.as_mut_slice.ensures.value)
    (crew_ready seen_protocol g.L.Door.Lane.told _ _ b.shared (λ w. w.seat) (λ w. w.lane) _ c.in-Ok.ensures.manned.crew)

pub finish_serve-served-requires-clause-first : goal.finish_serve-served-requires-clause-first
finish_serve-served-requires-clause-first g c κs within =
    let f = c.in-Ok.ensures.manned.first in
    (f.0, ap (own_entries c.in-Ok.begun.seat.number) f.1, f.2)

pub finish_serve-served-requires-clause-crew : goal.finish_serve-served-requires-clause-crew
finish_serve-served-requires-clause-crew g c κs within =
    let b = c.in-Ok.begun in
    let fresh = subst (AreFresh seen_protocol g.L.Door.Lane.told b.seat.opening b.seat.base b.shared (λ w. w.seat) (λ w. w.lane)) (sym c.as_mut_slice.ensures.value) c.in-Ok.ensures.manned.crew in
    over (AreHired seen_protocol g.L.Door.Lane.told b.seat.opening b.seat.base b.shared (λ w. w.seat) (λ w. w.lane)) c.work_all.new.workers _ _ (search rules) (c.work_all.ensures.hired b.seat.opening b.seat.base fresh)

pub returns-in-Ok-clause-serve : goal.returns-in-Ok-clause-serve
returns-in-Ok-clause-serve g c = λ input.
    let b = c.in-Ok.begun in
    let e = c.in-Ok.ensures in
    of_served seen_protocol register_opener _ _ _ g.L.Door.Lane.told _ b.seat (λ w. w.seat) (λ w. w.lane) b.hired.items b.came _ _ _ _ _ _ _ _ _ _ _
    e.manned (omega arith) e.loaded e.base e.lent c.begin_serve.ensures.asked e.kept c.finish_serve-served.ensures.finished
    (λ all. over (All (λ w. g.L.Door.Lane.accepts w.lane ≡ 0)) c.work_all.new.workers _ _ (search rules) (c.work_all.ensures.spent (ap length c.as_mut_slice.ensures.value ∙ all)))
    refl refl c.say_entries.ensures.later c.say_entries.ensures.said

pub returns-in-Err-clause-serve : goal.returns-in-Err-clause-serve
returns-in-Err-clause-serve g c = λ input.
    let e = c.in-Err.ensures in
    of_unserved seen_protocol register_opener _ _ _ _ _ _ _ c.in-Err.why (λ fault. fault ≡ Keeper) e.why c.say_unserved.ensures.said e.calm c.say_unserved.ensures.quiet refl refl
    (record { streams = record { input = omega arith; output = omega arith; errors = c.say_unserved.ensures.later }; stores = c.begin_serve.ensures.later })
    c.begin_serve.ensures.listener_later

pub finish_serve-served-requires-clause-out : goal.finish_serve-served-requires-clause-out
finish_serve-served-requires-clause-out g c κs within =
    let law = g.met.L.Listener.no_more_back c.args.listener.now in
    let m = c.in-Ok.ensures.manned in
    let back = ap (λ l. length l) m.returned in
    let lanes = m.lanes in
    omega arith
