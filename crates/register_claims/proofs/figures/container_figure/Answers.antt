use Rattle.std.proofs.Common.{◌≡◌, ℕ, true, IsPermutation, ap, subst, ◌∙◌}
use Rattle.inet_num.specs.Net.{size_of}
use Rattle.inet_num.specs.Count.{percent_of}
use Rattle.ipam_data.specs.declared.prefix.Prefix.{Prefix}
use Rattle.ipam_data.specs.Claims.{own_blocks}
use Rattle.placed_book.specs.Book.{TabledRows}
use Rattle.register_claims.specs.Children.{own_table_blocks}
use Rattle.register_claims.proofs.Counted.{lawful_there, own_in, own_counted, covered_beside}
use Rattle.register_claims.proofs.figures.container_figure.Goals as goal

pub of_container-requires-clause-long : goal.of_container-requires-clause-long
of_container-requires-clause-long c = (lawful_there c.args.row_tables.now.prefixes.rows c.args.row.now c.requires.lawful.prefixes.each c.requires.there).mask

pub returns : goal.returns
returns c =
    let rows = c.args.row_tables.now.prefixes.rows in
    let row = c.args.row.now in
    let each = c.requires.lawful.prefixes.each in
    let lawful = (lawful_there rows row each c.requires.there).bounds.block in
    let beside = own_in c.prefixes.result.now c.args.row_tables.now.prefixes row _ c.prefixes.ensures.book c.own_space.ensures.blocks in
    c.of_container.ensures ∙ ap (λ (n : ℕ). percent_of n (size_of row.block)) (covered_beside row.block true (own_table_blocks rows row) _ (own_blocks rows row) beside (own_counted rows each row lawful))
