use Rattle.std.proofs.Common.{sym, ◌∙◌, subst, List, ℕ}
use Rattle.stored_tables.specs.declared.tables.Tables.{Tables}
use Rattle.ipam_keeper.specs.Opener.{AllTables}
use Rattle.ipam_keeper.proofs.Paths.{at_index, nowhere, ordered_kept}
use Rattle.ipam_keeper.proofs.opener.keep_at.Goals as goal

pub returns-in-Some-clause-stored : goal.returns-in-Some-clause-stored
returns-in-Some-clause-stored c =
    let found = rw c.as_slice.ensures.value at c.found.ensures in
    sym ((at_index c.args.path c.args.stored.now.items c.in-Some.at (sym c.in-Some.is ∙ found)).kept c.args.tables)

pub returns-in-Some-clause-ordered : goal.returns-in-Some-clause-ordered
returns-in-Some-clause-ordered c =
    let found = rw c.as_slice.ensures.value at c.found.ensures in
    subst (λ (xs : List (List ℕ × Tables)). AllTables xs) ((at_index c.args.path c.args.stored.now.items c.in-Some.at (sym c.in-Some.is ∙ found)).kept c.args.tables)
    (ordered_kept c.args.path c.args.stored.now.items c.args.tables c.requires.ordered c.requires.tables)

pub returns-in-None-clause-stored : goal.returns-in-None-clause-stored
returns-in-None-clause-stored c =
    let found = rw c.as_slice.ensures.value at c.found.ensures in
    c.push_reserved.ensures.items ∙ sym ((nowhere c.args.path c.args.stored.now.items (sym c.in-None.is ∙ found)).kept c.args.tables)

pub returns-in-None-clause-ordered : goal.returns-in-None-clause-ordered
returns-in-None-clause-ordered c =
    let found = rw c.as_slice.ensures.value at c.found.ensures in
    subst (λ (xs : List (List ℕ × Tables)). AllTables xs) (sym (c.push_reserved.ensures.items ∙ sym ((nowhere c.args.path c.args.stored.now.items (sym c.in-None.is ∙ found)).kept c.args.tables)))
    (ordered_kept c.args.path c.args.stored.now.items c.args.tables c.requires.ordered c.requires.tables)
