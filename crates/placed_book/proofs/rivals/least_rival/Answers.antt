use Rattle.std.proofs.Common.{◌≡◌, ◌∙◌, sym, ap, arith, Option, Some, None, option_map}
use mir.Val.{bool_byte}
use Rattle.ipam_data.specs.Tables.{table_of}
use Rattle.placed_book.specs.Rivals.{is_rival}
use Rattle.placed_book.proofs.Meetings.{own_number, none_rival}
use Rattle.placed_book.proofs.Searches.{some_within, from_no, from_yes}
use Rattle.placed_book.proofs.rivals.least_rival.Goals.{in-Some+else-is_another, in_default}
use Rattle.placed_book.proofs.rivals.least_rival.Goals as goal

pub returns-then-times-is_in_place : goal.returns-then-times-is_in_place
returns-then-times-is_in_place g c =
    none_rival g.T.HasId.id_of g.T.Located.placed c.args.rows.now.rows c.args.tables.now c.args.row.now c.of.result c.block.result c.times.result (bool_byte c.is_in_place.result)
    c.in_order.ensures.ordered c.requires (c.of.ensures ∙ ap table_of c.vrf.ensures) c.block.ensures c.times.ensures (own_number c.is_in_place.result _ c.is_in_place.ensures)
    c.args.from c.if-times-is_in_place.true

pub returns-then-is_another : goal.returns-then-is_another
returns-then-is_another g c =
    ap Some c.id.ensures
    ∙ sym (ap (λ (o : Option g.row.T.Denot). option_map g.T.HasId.id_of o)
    (from_yes (is_rival g.T.HasId.id_of g.T.Located.placed c.args.row.now) c.args.rows.now.rows c.args.from c.rows.index c.in-Some.other.now (omega arith) (sym c.in-Some.ensures) (sym c.is_another.ensures ∙ c.if-is_another.true) c.rows.invariant))

pub rows-preserved : goal.rows-preserved
rows-preserved g c = elim c.match-at.branch [
  | in-Some+else-is_another w ↦ from_no (is_rival g.T.HasId.id_of g.T.Located.placed c.args.row.now) c.args.rows.now.rows c.args.from c.rows.index w.in-Some.other.now (omega arith) (sym w.in-Some.ensures) (sym w.is_another.ensures ∙ w.if-is_another.false) c.rows.invariant
  | in_default w ↦ (let some = some_within c.args.rows.now.rows c.rows.index (omega arith) in let wrong : None ≡ Some some.0 = w.in_default.ensures ∙ some.1 in cc)
]
