use Rattle.std.proofs.Common.{◌≡◌, ◌+◌, ◌<◌, ◌≤◌, ◌^◌, true, false, List, length, IfOk, IfErr, ap, sym, subst, ◌∙◌, arith}
use Rattle.inet_num.specs.Net.{Cidr}
use Rattle.block_space.specs.Listed.{counting_of}
use Rattle.block_space.specs.Fit.{fits_of}
use Rattle.block_claim.specs.Claims.{IsShort}
use Rattle.ipam_data.specs.declared.kinds.Table.{Table}
use Rattle.placed_book.specs.Book.{is_there}
use Rattle.register_tables.specs.Beside.{blocks_in_table}
use Rattle.register_claims.proofs.Counted.{table_there, lawful_there, all_counted, table_counted}
use Rattle.register_claims.proofs.blocks.fits.Goals as goal

pub fits_in_table-requires-clause-there : goal.fits_in_table-requires-clause-there
fits_in_table-requires-clause-there c =
    ap (λ (t : Table). is_there c.args.row_tables.now.prefixes.tables t) c.of.ensures
    ∙ table_there c.args.row_tables.now.prefixes.rows c.args.row_tables.now.prefixes.tables c.args.row.now c.prefixes.ensures.order.tables c.requires.there

pub returns-then-sees_all-clause-ok : goal.returns-then-sees_all-clause-ok
returns-then-sees_all-clause-ok c =
    let rows = c.args.row_tables.now.prefixes.rows in
    let each = c.requires.lawful.prefixes.each in
    let counted = all_counted rows each c.args.row.now (lawful_there rows c.args.row.now each c.requires.there).bounds.block (sym c.sees_all.ensures ∙ c.if-sees_all.true) in
    subst (λ (bs : List Cidr). IfOk c.fits_in_all.result (λ v. (v.items ≡ fits_of c.args.row.now.block bs c.args.wanted.now) × (length v.items ≡ length c.args.wanted.now))) counted c.fits_in_all.ensures.ok

pub returns-then-sees_all-clause-err : goal.returns-then-sees_all-clause-err
returns-then-sees_all-clause-err c =
    let rows = c.args.row_tables.now.prefixes.rows in
    let each = c.requires.lawful.prefixes.each in
    let counted = all_counted rows each c.args.row.now (lawful_there rows c.args.row.now each c.requires.there).bounds.block (sym c.sees_all.ensures ∙ c.if-sees_all.true) in
    subst (λ (bs : List Cidr). IfErr c.fits_in_all.result (IsShort (length c.args.wanted.now) (length (fits_of c.args.row.now.block bs c.args.wanted.now)))) counted c.fits_in_all.ensures.err

pub returns-clause-ok : goal.returns-clause-ok
returns-clause-ok c =
    let rows = c.args.row_tables.now.prefixes.rows in
    let each = c.requires.lawful.prefixes.each in
    let within = c.args.row.now.block in
    let counted = ap (λ (t : Table). counting_of (blocks_in_table rows t within.family) within true) c.of.ensures
    ∙ table_counted rows each c.args.row.now (lawful_there rows c.args.row.now each c.requires.there).bounds.block (sym c.sees_all.ensures ∙ c.if-sees_all.false) in
    subst (λ (bs : List Cidr). IfOk c.fits_in_table.result (λ v. (v.items ≡ fits_of within bs c.args.wanted.now) × (length v.items ≡ length c.args.wanted.now))) counted c.fits_in_table.ensures.ok

pub returns-clause-err : goal.returns-clause-err
returns-clause-err c =
    let rows = c.args.row_tables.now.prefixes.rows in
    let each = c.requires.lawful.prefixes.each in
    let within = c.args.row.now.block in
    let counted = ap (λ (t : Table). counting_of (blocks_in_table rows t within.family) within true) c.of.ensures
    ∙ table_counted rows each c.args.row.now (lawful_there rows c.args.row.now each c.requires.there).bounds.block (sym c.sees_all.ensures ∙ c.if-sees_all.false) in
    subst (λ (bs : List Cidr). IfErr c.fits_in_table.result (IsShort (length c.args.wanted.now) (length (fits_of within bs c.args.wanted.now)))) counted c.fits_in_table.ensures.err
