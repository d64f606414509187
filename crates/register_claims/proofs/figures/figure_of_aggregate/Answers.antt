use Rattle.std.proofs.Common.{◌≡◌, ℕ, false, IsPermutation, ap, subst, ◌∙◌}
use Rattle.inet_num.specs.declared.Family.{Family}
use Rattle.inet_num.specs.Net.{size_of}
use Rattle.inet_num.specs.Count.{percent_of}
use Rattle.ipam_data.specs.declared.prefix.Prefix.{Prefix}
use Rattle.ipam_data.specs.Rows.{aggregate_id}
use Rattle.ipam_data.specs.Claims.{aggregated_blocks}
use Rattle.ipam_data.proofs.Kept.{found_there}
use Rattle.placed_book.specs.Book.{TabledRows}
use Rattle.register_tables.specs.Beside.{blocks_in_all}
use Rattle.register_claims.proofs.Counted.{aggregate_counted, all_in, covered_beside}
use Rattle.register_claims.proofs.figures.figure_of_aggregate.Goals as goal

pub of_aggregate-requires-clause-long : goal.of_aggregate-requires-clause-long
of_aggregate-requires-clause-long c =
    (c.requires.lawful.aggregates.each c.args.row.now (found_there aggregate_id c.args.row_tables.now.aggregates.rows c.args.row.now.id c.args.row.now c.requires.there).0).mask

pub returns : goal.returns
returns c =
    let rows = c.args.row_tables.now.prefixes.rows in
    let row = c.args.row.now in
    let beside = all_in c.prefixes.result.now c.args.row_tables.now.prefixes c.family.result row.block.family _ c.prefixes.ensures.book c.family.ensures.family c.all.ensures.blocks in
    c.of_aggregate.ensures ∙ ap (λ (n : ℕ). percent_of n (size_of row.block)) (covered_beside row.block false (blocks_in_all rows row.block.family) _ (aggregated_blocks rows row) beside (aggregate_counted rows c.requires.lawful.prefixes.each row))
