use Rattle.command_migrate.proofs.Tables.{same_back}
use Rattle.command_migrate.proofs.migrate.migrate_file.Goals as goal

pub returns-clause-same : goal.returns-clause-same
returns-clause-same g c =
    same_back c.migrate_kept-migrated.result _ _ _ _ _ _ _ c.in-Ok-start.ensures.ok c.in-Ok-start.ensures.stays c.in-Ok-start.ensures.told
    c.migrate_kept-migrated.ensures.err c.done.ensures.returned
