use Rattle.std.proofs.Common.{◌≡◌, true, ap, ◌∙◌}
use Rattle.ipam_data.specs.declared.kinds.Table.{Table}
use Rattle.placed_book.specs.Book.{is_there}
use Rattle.register_claims.proofs.Counted.{table_there}
use Rattle.register_claims.proofs.children.own_space.Goals as goal

pub unreachable-requires : goal.unreachable-requires
unreachable-requires g c =
    let there : is_there c.args.book.now.tables c.of.result ≡ true =
    ap (λ (t : Table). is_there c.args.book.now.tables t) c.of.ensures
    ∙ table_there c.args.book.now.rows c.args.book.now.tables c.args.row.now c.requires.order.tables c.requires.there in
    let wrong = c.in-None.ensures.there.1 there in
    cc
