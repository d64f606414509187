use Rattle.std.proofs.Common.{Box, Global, ◌≡◌, ap, sym, subst, ◌∙◌, Some}
use mathlib.Core.Option.{some-injective}
use Rattle.history_lock.specs.Seats.{SeatView, IsClosed}
use Rattle.history_lock.specs.Machines.{meaning}
use Rattle.history_lock.proofs.Parts.{closes, machine_is}
use Rattle.history_lock.proofs.lock.Shared.close.Goals as goal

pub machine_of-requires : goal.machine_of-requires
machine_of-requires g c =
    let W = meaning (λ (b : Box g.row.M.Denot Global). g.M.Machine.opening b.value) (λ b. g.M.Machine.state b.value) (λ b. g.M.Machine.log b.value) (λ b. g.M.Machine.faults b.value) g.M.Machine.step in
    let p = c.seat.inside.place in
    let last = closes W _ p.table_id p.id p.me.0 _ _ c.close_with-closed.ensures.values.2 c.seat.invariant.0.0 c.seat.invariant.0.1 (ap (λ (k : SeatView g.row.M-State.Denot g.row.M-Said.Denot). k.weight) c.seat.view_is ∙ c.requires.whole) in
    (last.0, some-injective c.take-slot.result (Some last.0) (sym c.take-slot.ensures.value ∙ last.1))

pub returns : goal.returns
returns g c =
    let W = meaning (λ (b : Box g.row.M.Denot Global). g.M.Machine.opening b.value) (λ b. g.M.Machine.state b.value) (λ b. g.M.Machine.log b.value) (λ b. g.M.Machine.faults b.value) g.M.Machine.step in
    let p = c.seat.inside.place in
    let last = closes W _ p.table_id p.id p.me.0 _ _ c.close_with-closed.ensures.values.2 c.seat.invariant.0.0 c.seat.invariant.0.1 (ap (λ (k : SeatView g.row.M-State.Denot g.row.M-Said.Denot). k.weight) c.seat.view_is ∙ c.requires.whole) in
    let is : c.take-slot.result ≡ Some last.0 = some-injective c.take-slot.result (Some last.0) (sym c.take-slot.ensures.value ∙ last.1) in
    let same : last.0 ≡ c.machine_of.result = machine_is last.0 c.machine_of.result c.take-slot.result is c.machine_of.ensures in
    let k = subst (λ (z : SeatView g.row.M-State.Denot g.row.M-Said.Denot × Box g.row.M.Denot Global). IsClosed W z.0 z.1) (λ i. (c.seat.view_is i, same i)) last.2 in
    let V = meaning g.M.Machine.opening g.M.Machine.state g.M.Machine.log g.M.Machine.faults g.M.Machine.step in
    let inner : IsClosed V c.args.seat c.machine_of.result.value = record {
      log_is_seen = k.log_is_seen;
      opening_stays = k.opening_stays;
      state_is_replay = k.state_is_replay;
      faults_are_counted = k.faults_are_counted;
      entries_have_seats = k.entries_have_seats;
      ended_entries_are_kept = k.ended_entries_are_kept;
    } in
    subst (λ (x : g.row.M.Denot). IsClosed V c.args.seat x) (sym c.into_inner.ensures) inner
