use Rattle.std.proofs.Common.{◌≡◌, IfOk, sym, subst, ◌∙◌}
use Rattle.pool_keeper.specs.declared.tables.PoolTables.{PoolTables}
use Rattle.pool_keeper.proofs.Paths.{at_index, nowhere}
use Rattle.pool_keeper.proofs.opener.copy_under.Goals as goal

pub returns-in-Some : goal.returns-in-Some
returns-in-Some c =
    let first = at_index c.args.path.now c.args.stored.now c.in-Some.at (sym c.in-Some.is ∙ c.found.ensures) in
    subst (λ (tables : PoolTables). IfOk c.copy.result (λ t. t ≡ tables)) (sym (first.tables c.index-stored-at.result)) c.copy.ensures

pub returns-in-None : goal.returns-in-None
returns-in-None c = c.empty_tables.ensures ∙ sym (nowhere c.args.path.now c.args.stored.now (sym c.in-None.is ∙ c.found.ensures)).tables
