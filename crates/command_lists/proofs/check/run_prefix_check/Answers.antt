use Rattle.std.proofs.Common.{refl, arith, sym, subst}
use Rattle.std.proofs.Math.Logic.{⊎_map}
use Rattle.ipam_edge.proofs.FaultLemmas.{unless}
use Rattle.command_store.specs.Outside.{stores}
use Rattle.prefix_list.specs.Lists.{AreOf}
use Rattle.command_lists.specs.Reading.{IsRead}
use Rattle.command_lists.proofs.Checks.{of_stopped}
use Rattle.command_lists.proofs.Stops.{of_table_stop, quiet_table_stop}
use Rattle.command_lists.proofs.check.run_prefix_check.Goals as goal

pub check_input-requires : goal.check_input-requires
check_input-requires g c = subst (AreOf c.args.asked.now.family) (sym c.deref.ensures.value) c.in-Ok.ensures.family

pub returns-in-Ok : goal.returns-in-Ok
returns-in-Ok g c =
    let old = stores g.O.KeeperOpener.stored g.O.KeeperOpener.faults c.args.opener.now in
    let new = stores g.O.KeeperOpener.stored g.O.KeeperOpener.faults c.read_table.new.opener in
    c.check_input.ensures old new (subst (IsRead c.args.asked.now old) (sym c.deref.ensures.value) c.in-Ok.ensures.read) c.read_table.ensures.same (unless (λ k. cc k) c.in-Ok.ensures.still)

pub returns-in-Err : goal.returns-in-Err
returns-in-Err g c =
    of_stopped c.args.asked.now _ _ _ c.read_table.ensures.same
    (record { streams = record { input = omega arith; output = omega arith; errors = c.say_table_stop.ensures.later }; stores = c.read_table.ensures.later })
    (λ five. quiet_table_stop _ _ c.in-Err.stop _ (⊎_map (λ k. cc k) (λ same. same) c.in-Err.ensures.still) c.say_table_stop.ensures.said refl refl five)
    (of_table_stop c.args.asked.now _ _ _ c.in-Err.stop c.in-Err.ensures.stop c.say_table_stop.ensures.said (record { input = refl; output = refl; stored = c.read_table.ensures.same }))
    (record { input = refl; output = refl; stored = c.read_table.ensures.same })
