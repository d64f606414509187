use Rattle.command_migrate.proofs.Tables.{migrated_in}
use Rattle.command_migrate.proofs.migrate.migrate_kept.Goals as goal

pub upgrade-requires-clause-order : goal.upgrade-requires-clause-order
upgrade-requires-clause-order g c = c.in-Ok-migrate.ensures.order c.in-Ok.ensures.order

pub returns-in-Ok-upgrade-clause-ok : goal.returns-in-Ok-upgrade-clause-ok
returns-in-Ok-upgrade-clause-ok g c =
    migrated_in c.args.populated _ (g.K.Keeper.told c.load.new.self) _ c.in-Ok.tables c.in-Ok-migrate.anew _ c.in-Ok.ensures.told c.in-Ok-migrate.ensures.ok.0
    c.in-Ok-migrate.ensures.ok.1 c.in-Ok.ensures.stays c.in-Ok-upgrade.ensures.ok c.count_ranges.ensures
