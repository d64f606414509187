use Rattle.std.proofs.Common.{◌≡◌, ◌-◌, arith, ap, ◌∙◌, sym, subst}
use Rattle.std.specs.List.{count_by}
use mir.Val.{bool_byte}
use Rattle.ipam_data.specs.Tables.{table_of}
use Rattle.placed_book.specs.Book.{TabledRows, IsInOrder}
use Rattle.placed_book.specs.Rivals.{is_rival}
use Rattle.placed_book.proofs.Meetings.{own_number, rivals}
use Rattle.placed_book.proofs.PlacedBook.count_rivals.Goals as goal

pub overflow_sub-result : goal.overflow_sub-result
overflow_sub-result g c =
    let order = subst (λ (b : TabledRows g.row.T.Denot). IsInOrder g.T.Located.placed b) (sym c.self.view_is) c.requires in
    let sum = rivals g.T.HasId.id_of g.T.Located.placed c.self.inside.rows.rows c.self.inside.tables c.args.row.now c.of.result c.block.result c.times.result (bool_byte c.is_in_place-own.result)
    c.in_order.ensures.ordered order.tables (c.of.ensures ∙ ap table_of c.vrf.ensures) c.block.ensures c.times.ensures (own_number c.is_in_place-own.result _ c.is_in_place-own.ensures) in
    omega arith

pub returns : goal.returns
returns g c =
    let order = subst (λ (b : TabledRows g.row.T.Denot). IsInOrder g.T.Located.placed b) (sym c.self.view_is) c.requires in
    let sum = rivals g.T.HasId.id_of g.T.Located.placed c.self.inside.rows.rows c.self.inside.tables c.args.row.now c.of.result c.block.result c.times.result (bool_byte c.is_in_place-own.result)
    c.in_order.ensures.ordered order.tables (c.of.ensures ∙ ap table_of c.vrf.ensures) c.block.ensures c.times.ensures (own_number c.is_in_place-own.result _ c.is_in_place-own.ensures) in
    subst (λ (b : TabledRows g.row.T.Denot). c.times.result - bool_byte c.is_in_place-own.result ≡ count_by (is_rival g.T.HasId.id_of g.T.Located.placed c.args.row.now) b.rows) c.self.view_is (omega arith)
