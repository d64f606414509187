use Rattle.std.proofs.Common.{◌≡◌, List, take, IfOk, IsPermutation, subst}
use Rattle.inet_num.specs.Net.{Cidr}
use Rattle.ipam_data.specs.declared.prefix.Prefix.{Prefix}
use Rattle.placed_book.specs.Book.{TabledRows}
use Rattle.ipam_data.specs.Claims.{child_blocks}
use Rattle.register_claims.specs.Children.{blocks_beside}
use Rattle.register_claims.proofs.Counted.{lawful_there, beside_in, beside_counted, available_beside}
use Rattle.register_claims.proofs.blocks.available_in.Goals as goal

pub returns : goal.returns
returns c =
    let rows = c.args.row_tables.now.prefixes.rows in
    let row = c.args.row.now in
    let each = c.requires.lawful.prefixes.each in
    let lawful = (lawful_there rows row each c.requires.there).bounds.block in
    let beside = beside_in c.prefixes.result.now c.args.row_tables.now.prefixes row _ c.prefixes.ensures.book c.space_beside-kids.ensures.blocks in
    subst (λ (bs : List Cidr). IfOk c.available_blocks.result (λ v. v.items ≡ take c.args.limit bs))
    (available_beside row.block (blocks_beside rows row) _ (child_blocks rows row) lawful beside (beside_counted rows each row lawful)) c.available_blocks.ensures
