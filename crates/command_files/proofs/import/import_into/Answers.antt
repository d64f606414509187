use Rattle.std.proofs.Common.{Err, refl, ap, sym, subst}
use Rattle.ipam_keeper.specs.Keeping.{Rose}
use Rattle.ipam_data.specs.State.{State}
use Rattle.stored_tables.specs.Stored.{Tells}
use Rattle.command_store.specs.Outside.{stores}
use Rattle.command_files.proofs.Stored.{imported_back, stopped_back}
use Rattle.command_files.proofs.import.import_into.Goals as goal

pub returns-in-Ok-made-clause-ok : goal.returns-in-Ok-made-clause-ok
returns-in-Ok-made-clause-ok g c =
    imported_back c.args.kind c.args.store.now c.args.rows _ _ c.in-Ok.register.state
    (g.O.KeeperOpener.lent c.open_store.new.opener) (stores g.O.KeeperOpener.stored g.O.KeeperOpener.faults c.open_store.new.opener)
    (g.O.Kept.Keeper.told c.in-Ok.register.keeper) (g.O.Kept.Keeper.told c.import_rows-made.new.register.keeper) (g.O.Kept.Keeper.told c.into_keeper.result)
    c.in-Ok.ensures.state c.in-Ok.ensures.lent c.in-Ok.ensures.stays c.in-Ok.ensures.told (ap g.O.Kept.Keeper.told c.into_keeper.ensures) c.done.ensures.returned c.in-Ok-made.counts
    c.in-Ok-made.ensures.ok c.import_rows-made.ensures.telling
    (subst (λ (s : State). Tells (g.O.Kept.Keeper.told c.import_rows-made.new.register.keeper) s) c.in-Ok-made.ensures.state c.import_rows-made.ensures.tells)

pub returns-in-Err-made-clause-err : goal.returns-in-Err-made-clause-err
returns-in-Err-made-clause-err g c =
    stopped_back c.args.kind c.args.store.now c.args.rows _ _ c.in-Ok.register.state
    (g.O.KeeperOpener.lent c.open_store.new.opener) (stores g.O.KeeperOpener.stored g.O.KeeperOpener.faults c.open_store.new.opener)
    (g.O.Kept.Keeper.told c.in-Ok.register.keeper) (g.O.Kept.Keeper.told c.import_rows-made.new.register.keeper) (g.O.Kept.Keeper.told c.into_keeper.result)
    c.in-Ok.ensures.state c.in-Ok.ensures.lent c.in-Ok.ensures.stays c.in-Ok.ensures.told (ap g.O.Kept.Keeper.told c.into_keeper.ensures) c.done.ensures.returned c.in-Err-made.stop
    (g.O.Kept.Keeper.faults c.in-Ok.register.keeper) (g.O.Kept.Keeper.faults c.into_keeper.result) c.in-Err-made.ensures.err c.in-Err-made.ensures.stop
    (λ e. subst (Rose (g.O.Kept.Keeper.faults c.in-Ok.register.keeper)) (ap g.O.Kept.Keeper.faults (sym c.into_keeper.ensures)) (c.in-Err-made.ensures.failed (ap Err e))) c.open_store.ensures.later c.done.ensures.raised
