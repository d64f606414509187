use Rattle.std.proofs.Common.{◌≡◌, ◌++◌, ◌∙◌, sym, map, arith, None, Some}
use Rattle.placed_book.specs.Firsts.{ids_at, one_if}
use Rattle.placed_book.proofs.Searches.{some_within}
use Rattle.placed_book.proofs.Listed.{listed_more}
use Rattle.placed_book.proofs.rivals.ids_among.Goals.{in-Some+in_ok-push_if, in_default}
use Rattle.placed_book.proofs.rivals.ids_among.Goals as goal

pub rows-preserved : goal.rows-preserved
rows-preserved g c = elim c.match-at.branch [
  | in-Some+in_ok-push_if w ↦
      let e = w.ids-is in
      let f = w.in_ok-push_if.ensures in
      let next : c.match-at.ids.items ≡ c.rows.ids.items ++ one_if w.is_here.result w.id.result = cc in
      listed_more g.T.Located.placed c.args.table c.args.block.now c.args.rows.now.rows c.rows.index w.in-Some.row.now c.rows.ids.items c.match-at.ids.items (ids_at (map g.T.Located.placed c.args.rows.now.rows) c.args.table c.args.block.now)
      w.is_here.result w.id.result (sym w.in-Some.ensures) w.is_here.ensures (w.id.ensures ∙ sym (g.met.T.Located.same w.in-Some.row.now)) next c.rows.invariant
  | in_default w ↦ (let below = c.rows-test.true in let len = c.len-count.ensures.len in let some = some_within c.args.rows.now.rows c.rows.index (omega arith) in let wrong : None ≡ Some some.0 = w.in_default.ensures ∙ some.1 in cc)
]
