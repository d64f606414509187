use Rattle.std.proofs.Common.{sym, ◌∙◌}
use Rattle.pool_keeper.proofs.Paths.{at_index, nowhere}
use Rattle.pool_keeper.proofs.opener.keep_at.Goals as goal

pub returns-in-Some : goal.returns-in-Some
returns-in-Some c =
    let found = rw c.as_slice.ensures.value at c.found.ensures in
    sym ((at_index c.args.path c.args.stored.now.items c.in-Some.at (sym c.in-Some.is ∙ found)).kept c.args.tables)

pub returns-in-None : goal.returns-in-None
returns-in-None c =
    let found = rw c.as_slice.ensures.value at c.found.ensures in
    c.push_reserved.ensures.items ∙ sym ((nowhere c.args.path c.args.stored.now.items (sym c.in-None.is ∙ found)).kept c.args.tables)
