use Rattle.std.proofs.Common.{◌∙◌, ap, sym}
use Rattle.inet_num.specs.Net.{Cidr}
use Rattle.ipam_data.specs.declared.kinds.Table.{Table}
use Rattle.ipam_data.specs.Tables.{table_of}
use Rattle.placed_book.specs.Firsts.{spot_of}
use Rattle.placed_book.proofs.Leasts.{row_id, some_row_first, cut_row_firsts, cut_no_firsts}
use Rattle.placed_book.proofs.Moves.{held, held_all, cut_places, cut_there, cut_nothing, cut_all_places, cut_all_nothing}
use Rattle.placed_book.proofs.forget.Goals as goal

pub settle_first-requires : goal.settle_first-requires
settle_first-requires g c =
    some_row_first g.T.HasId.id_of g.T.Located.placed g.met.T.Located.same c.args.rows.now.rows c.args.id c.in-Some.row.now c.args.firsts.now c.spot_at.result (sym c.in-Some.ensures)
    (c.spot_at.ensures ∙ ap (λ (t : Table). spot_of t c.block-block.result) (c.of-table.ensures ∙ ap table_of c.vrf.ensures) ∙ ap (λ (b : Cidr). spot_of (table_of (g.T.Located.placed c.in-Some.row.now).vrf) b) c.block-block.ensures)
    c.requires.firsts

pub remove-requires : goal.remove-requires
remove-requires g c =
    held g.T.HasId.id_of g.T.Located.placed g.met.T.Located.same c.args.rows.now.rows c.args.id c.in-Some.row.now c.args.tables.now c.of-table.result c.block-block.result
    c.in_order.ensures.ordered (sym c.in-Some.ensures) (c.of-table.ensures ∙ ap table_of c.vrf.ensures) c.block-block.ensures c.requires.tables

pub remove-requires-in-Some : goal.remove-requires-in-Some
remove-requires-in-Some g c =
    held_all g.T.HasId.id_of g.T.Located.placed g.met.T.Located.same c.args.rows.now.rows c.args.id c.in-Some.row.now c.args.all.now c.block-block.result
    c.in_order.ensures.ordered (sym c.in-Some.ensures) c.block-block.ensures c.requires.all

pub returns-in-Some-clause-places : goal.returns-in-Some-clause-places
returns-in-Some-clause-places g c = record {
  tables = cut_places g.T.HasId.id_of g.T.Located.placed g.met.T.Located.same c.args.rows.now.rows c.args.id c.in-Some.row.now c.args.tables.now c.remove.new.self c.of-table.result c.block-block.result
      c.in_order.ensures.ordered (sym c.in-Some.ensures) (c.of-table.ensures ∙ ap table_of c.vrf.ensures) c.block-block.ensures c.requires.tables c.remove.ensures;
  all = cut_all_places g.T.HasId.id_of g.T.Located.placed g.met.T.Located.same c.args.rows.now.rows c.args.id c.in-Some.row.now c.args.all.now c.remove-in-Some.new.self c.block-block.result
      c.in_order.ensures.ordered (sym c.in-Some.ensures) c.block-block.ensures c.requires.all c.remove-in-Some.ensures;
  firsts = cut_row_firsts g.T.HasId.id_of g.T.Located.placed g.met.T.Located.same c.args.rows.now.rows c.args.id c.in-Some.row.now c.args.firsts.now c.settle_first.new.firsts c.spot_at.result c.first_rival-next.result
      c.in_order.ensures.ordered (sym c.in-Some.ensures) (row_id g.T.HasId.id_of g.T.Located.placed g.met.T.Located.same c.args.rows.now.rows c.args.id c.in-Some.row.now (sym c.in-Some.ensures)) c.requires.firsts
      (c.spot_at.ensures ∙ ap (λ (t : Table). spot_of t c.block-block.result) (c.of-table.ensures ∙ ap table_of c.vrf.ensures) ∙ ap (λ (b : Cidr). spot_of (table_of (g.T.Located.placed c.in-Some.row.now).vrf) b) c.block-block.ensures)
      c.settle_first.ensures.set c.first_rival-next.ensures;
}

pub returns-in-Some-clause-there : goal.returns-in-Some-clause-there
returns-in-Some-clause-there g c =
    cut_there g.T.HasId.id_of g.T.Located.placed g.met.T.Located.same c.args.rows.now.rows c.args.id c.in-Some.row.now c.args.tables.now c.remove.new.self c.of-table.result c.block-block.result
    (sym c.in-Some.ensures) (c.of-table.ensures ∙ ap table_of c.vrf.ensures) c.block-block.ensures c.requires.tables c.remove.ensures

pub returns-in_default-clause-places : goal.returns-in_default-clause-places
returns-in_default-clause-places g c = record {
  tables = cut_nothing g.T.HasId.id_of g.T.Located.placed g.met.T.Located.same c.args.rows.now.rows c.args.id c.args.tables.now (sym c.in_default.ensures) c.requires.tables;
  all = cut_all_nothing g.T.HasId.id_of g.T.Located.placed g.met.T.Located.same c.args.rows.now.rows c.args.id c.args.all.now (sym c.in_default.ensures) c.requires.all;
  firsts = cut_no_firsts g.T.HasId.id_of g.T.Located.placed g.met.T.Located.same c.args.rows.now.rows c.args.id c.args.firsts.now (sym c.in_default.ensures) c.requires.firsts;
}
