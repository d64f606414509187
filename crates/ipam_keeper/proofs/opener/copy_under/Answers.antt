use Rattle.std.proofs.Common.{◌≡◌, IfOk, get_or, sym, subst, ◌∙◌}
use Rattle.stored_tables.specs.declared.tables.Tables.{Tables}
use Rattle.ipam_keeper.proofs.Paths.{at_index, nowhere, ordered_at, same_order}
use Rattle.ipam_keeper.proofs.opener.copy_under.Goals as goal

pub returns-in-Some-clause-tables : goal.returns-in-Some-clause-tables
returns-in-Some-clause-tables c =
    let first = at_index c.args.path.now c.args.stored.now c.in-Some.at (sym c.in-Some.is ∙ c.found.ensures) in
    subst (λ (tables : Tables). IfOk c.copy.result (λ t. t ≡ tables)) (sym (first.tables c.index-stored-at.result)) c.copy.ensures

pub returns-in-Some-clause-order : goal.returns-in-Some-clause-order
returns-in-Some-clause-order c =
    let first = at_index c.args.path.now c.args.stored.now c.in-Some.at (sym c.in-Some.is ∙ c.found.ensures) in
    same_order c.copy.result (get_or c.args.stored.now c.in-Some.at c.index-stored-at.result).1
    (ordered_at c.args.path.now c.args.stored.now c.in-Some.at c.index-stored-at.result c.requires first.within) c.copy.ensures

pub returns-in-None-clause-tables : goal.returns-in-None-clause-tables
returns-in-None-clause-tables c =
    subst (λ (tables : Tables). IfOk c.empty_tables.result (λ t. t ≡ tables)) (sym (nowhere c.args.path.now c.args.stored.now (sym c.in-None.is ∙ c.found.ensures)).tables) c.empty_tables.ensures.tables
