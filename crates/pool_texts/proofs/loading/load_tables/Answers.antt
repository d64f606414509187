use Rattle.pool_texts.proofs.Loaded.{same_after}
use Rattle.pool_texts.proofs.loading.load_tables.Goals as goal

pub returns-clause-same : goal.returns-clause-same
returns-clause-same g c =
    same_after _ _ _ _ _ _ _ c.in-Ok.ensures.ok c.start.ensures.stays c.load-tables.ensures.stays c.in-Ok.ensures.told c.done.ensures.returned
