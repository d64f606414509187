use Rattle.std.proofs.Common.{◌≡◌, false, List, ◌≤◌, ◌+◌, ◌-◌, ℕ, map, sym, subst, ◌∙◌, ap, arith}
use Rattle.std.specs.HashMap.{spare}
use Rattle.inet_num.specs.Net.{Cidr}
use Rattle.ipam_data.specs.declared.kinds.Table.{Table}
use Rattle.ipam_data.specs.RowList.{without}
use Rattle.ipam_data.specs.Tables.{table_of}
use Rattle.placed_book.specs.Book.{Placed, TabledRows, spare_of, IsInOrder, AreInOrder, AreAll}
use Rattle.placed_book.specs.RowBook.{IsFitting}
use Rattle.placed_book.specs.Firsts.{spot_of, HasFirsts}
use Rattle.placed_book.specs.Rivals.{stays_among}
use Rattle.placed_book.proofs.Leasts.{put_row_firsts}
use Rattle.placed_book.proofs.InOrder.{room_there}
use Rattle.placed_book.proofs.Moves.{few_placed, few_all_placed, put_places, put_all_places, stays_places}
use Rattle.placed_book.proofs.PlacedBook.put.Goals as goal

pub forget-requires : goal.forget-requires
forget-requires g c =
    let order = subst (λ (b : TabledRows g.row.T.Denot). IsInOrder g.T.Located.placed b) (sym c.self.view_is) c.requires.order in
    record { tables = order.tables; all = order.all; firsts = c.self.invariant.3 }

pub insert-requires-clause-few : goal.insert-requires-clause-few
insert-requires-clause-few g c =
    let few = few_placed g.T.HasId.id_of g.T.Located.placed g.met.T.Located.same c.self.inside.rows.rows c.id-id.result c.forget.new.tables c.of-table.result c.block-block.result.family c.forget.ensures.places.tables in
    let bound = c.in_order.ensures.few in
    omega arith

pub insert-requires-2-clause-few : goal.insert-requires-2-clause-few
insert-requires-2-clause-few g c =
    let few = few_all_placed g.T.HasId.id_of g.T.Located.placed g.met.T.Located.same c.self.inside.rows.rows c.id-id.result c.forget.new.all c.block-block.result.family c.forget.ensures.places.all in
    let bound = c.in_order.ensures.few in
    omega arith

pub returns-clause-order : goal.returns-clause-order
returns-clause-order g c =
    let order = subst (λ (b : TabledRows g.row.T.Denot). IsInOrder g.T.Located.placed b) (sym c.self.view_is) c.requires.order in
    let room = subst (λ (b : TabledRows g.row.T.Denot). stays_among g.T.HasId.id_of g.T.Located.placed b.rows c.args.row ≡ false → 1 ≤ spare_of b.tables (table_of (g.T.Located.placed c.args.row).vrf)) (sym c.self.view_is) c.requires.table_room
    (sym c.is_in_place.ensures ∙ c.if-is_in_place.false) in
    let less = subst (λ (n : ℕ). AreInOrder (map g.T.Located.placed (without g.T.HasId.id_of c.self.inside.rows.rows n)) c.forget.new.tables) c.id-id.ensures c.forget.ensures.places.tables in
    let less_all = subst (λ (n : ℕ). AreAll (map g.T.Located.placed (without g.T.HasId.id_of c.self.inside.rows.rows n)) c.forget.new.all) c.id-id.ensures c.forget.ensures.places.all in
    record {
      tables = put_places g.T.HasId.id_of g.T.Located.placed g.met.T.Located.same c.self.inside.rows.rows c.put-2.new.self.rows c.args.row c.forget.new.tables c.insert.new.self c.of-table.result c.block-block.result
          c.in_order.ensures.ordered c.put-2.ensures.rows (c.of-table.ensures ∙ ap table_of c.vrf.ensures) c.block-block.ensures less
          (λ other d. c.forget.ensures.there (table_of other.vrf) ∙ order.tables.named other d)
          (c.forget.ensures.there (table_of (g.T.Located.placed c.args.row).vrf) ∙ room_there c.self.inside.tables (table_of (g.T.Located.placed c.args.row).vrf) room)
          c.insert.ensures;
      all = put_all_places g.T.HasId.id_of g.T.Located.placed g.met.T.Located.same c.self.inside.rows.rows c.put-2.new.self.rows c.args.row c.forget.new.all c.insert-2.new.self c.block-block.result
          c.in_order.ensures.ordered c.put-2.ensures.rows c.block-block.ensures less_all c.insert-2.ensures;
    }

pub invariant_of-self-2 : goal.invariant_of-self-2
invariant_of-self-2 g c =
    let fits = subst (λ (b : TabledRows g.row.T.Denot). IsFitting g.T.HasId.id_of b.rows c.args.row) (sym c.self.view_is) c.requires.fits in
    let kept : spare c.self.inside.firsts ≤ spare c.forget.new.firsts = c.forget.ensures.room in
    let noted : spare c.forget.new.firsts ≤ spare c.note_first.new.firsts + 1 = c.note_first.ensures.spare in
    let was : c.self.inside.spare ≤ spare c.self.inside.firsts = c.self.invariant.2 in
    let room : c.self.inside.spare - 1 ≤ spare c.note_first.new.firsts = omega (arith, kept, noted, was) in (
      omega (arith, c.put-2.ensures.spare, c.self.invariant.0),
      omega (arith, c.forget.ensures.spare, c.insert-2.ensures.spare, c.self.invariant.1),
      room,
      put_row_firsts g.T.HasId.id_of g.T.Located.placed g.met.T.Located.same c.self.inside.rows.rows c.put-2.new.self.rows c.args.row c.forget.new.firsts c.note_first.new.firsts c.spot_at.result c.id-id.result
          c.in_order.ensures.ordered c.put-2.ensures.rows c.id-id.ensures fits c.forget.ensures.places.firsts
          (c.spot_at.ensures ∙ ap (λ (t : Table). spot_of t c.block-block.result) (c.of-table.ensures ∙ ap table_of c.vrf.ensures) ∙ ap (λ (b : Cidr). spot_of (table_of (g.T.Located.placed c.args.row).vrf) b) c.block-block.ensures)
          c.note_first.ensures.set,
    )

pub returns-then-is_in_place-clause-order : goal.returns-then-is_in_place-clause-order
returns-then-is_in_place-clause-order g c =
    let order = subst (λ (b : TabledRows g.row.T.Denot). IsInOrder g.T.Located.placed b) (sym c.self.view_is) c.requires.order in
    let stays = sym c.is_in_place.ensures ∙ c.if-is_in_place.true in
    let is = stays_places g.T.HasId.id_of g.T.Located.placed g.met.T.Located.same c.self.inside.rows.rows c.put.new.self.rows c.args.row c.put.ensures.rows stays in
    record {
      tables = subst (λ (ps : List Placed). AreInOrder ps c.self.inside.tables) (sym is) order.tables;
      all = subst (λ (ps : List Placed). AreAll ps c.self.inside.all) (sym is) order.all;
    }

pub invariant_of-self : goal.invariant_of-self
invariant_of-self g c =
    let stays = sym c.is_in_place.ensures ∙ c.if-is_in_place.true in
    let is = stays_places g.T.HasId.id_of g.T.Located.placed g.met.T.Located.same c.self.inside.rows.rows c.put.new.self.rows c.args.row c.put.ensures.rows stays in (
      omega (arith, c.put.ensures.spare, c.self.invariant.0),
      omega (arith, c.self.invariant.1),
      omega (arith, c.self.invariant.2),
      subst (λ (ps : List Placed). HasFirsts ps c.self.inside.firsts) (sym is) c.self.invariant.3,
    )
