use Rattle.std.proofs.Common.{◌≡◌, ◌+◌, ◌∙◌, true, false, None, Some, sym, ap, subst, arith, drop, length, List}
use Rattle.ipam_data.specs.declared.kinds.Table.{Table}
use Rattle.ipam_data.specs.RowList.{least_pair}
use Rattle.ipam_data.specs.Tables.{table_of, same_table}
use Rattle.placed_book.specs.Book.{TabledRows}
use Rattle.placed_book.specs.Rivals.{coincide_in}
use Rattle.placed_book.proofs.Meetings.{some_of, next_pair, this_pair, no_more_pairs, pair_in_no_table, pair_found, pair_none}
use Rattle.placed_book.proofs.PlacedBook.same_block_pair.Goals.{in-Some+then-is_one_table+in_default-least_rival, in-Some+else-is_one_table, in_default}
use Rattle.placed_book.proofs.PlacedBook.same_block_pair.Goals as goal

pub returns-in-Some-least_rival : goal.returns-in-Some-least_rival
returns-in-Some-least_rival g c =
    let is = ap (λ (b : TabledRows g.row.T.Denot). b.rows) c.self.view_is in
    let len = c.len-count.ensures.len in
    let below = c.rows-test.true in
    let so_far = subst (λ (rows : List g.row.T.Denot). least_pair g.T.HasId.id_of (coincide_in g.T.Located.placed c.args.table) rows ≡ least_pair g.T.HasId.id_of (coincide_in g.T.Located.placed c.args.table) (drop c.rows.index rows)) (sym is) c.rows.invariant in
    let own : same_table (table_of (g.T.Located.placed c.in-Some.row.now).vrf) c.args.table ≡ true = ap (λ (t : Table). same_table t c.args.table) (sym (c.of.ensures ∙ ap table_of c.vrf.ensures)) ∙ sym c.is_one_table.ensures ∙ c.if-is_one_table.true in
    let here = this_pair g.T.HasId.id_of g.T.Located.placed c.args.table c.self.inside.rows.rows c.rows.index (c.id.result, c.in-Some-least_rival.other) (omega arith)
    (λ x e. pair_found g.T.HasId.id_of g.T.Located.placed c.args.table c.self.inside.rows.rows c.rows.index c.in-Some.row.now x c.in-Some.ensures e c.in_order.ensures.ordered own c.id.result c.in-Some-least_rival.other c.id.ensures c.in-Some-least_rival.ensures) so_far in
    subst (λ (rows : List g.row.T.Denot). some_of (c.id.result, c.in-Some-least_rival.other) ≡ least_pair g.T.HasId.id_of (coincide_in g.T.Located.placed c.args.table) rows) is here

pub rows-preserved : goal.rows-preserved
rows-preserved g c =
    let is = ap (λ (b : TabledRows g.row.T.Denot). b.rows) c.self.view_is in
    let len = c.len-count.ensures.len in
    let below = c.rows-test.true in
    let so_far = subst (λ (rows : List g.row.T.Denot). least_pair g.T.HasId.id_of (coincide_in g.T.Located.placed c.args.table) rows ≡ least_pair g.T.HasId.id_of (coincide_in g.T.Located.placed c.args.table) (drop c.rows.index rows)) (sym is) c.rows.invariant in
    let next : least_pair g.T.HasId.id_of (coincide_in g.T.Located.placed c.args.table) c.self.inside.rows.rows ≡ least_pair g.T.HasId.id_of (coincide_in g.T.Located.placed c.args.table) (drop (c.rows.index + 1) c.self.inside.rows.rows) =
    elim c.match-at.branch [
      | in-Some+then-is_one_table+in_default-least_rival w ↦
          let own : same_table (table_of (g.T.Located.placed w.in-Some.row.now).vrf) c.args.table ≡ true = ap (λ (t : Table). same_table t c.args.table) (sym (w.of.ensures ∙ ap table_of w.vrf.ensures)) ∙ sym w.is_one_table.ensures ∙ w.if-is_one_table.true in
          next_pair g.T.HasId.id_of g.T.Located.placed c.args.table c.self.inside.rows.rows c.rows.index (omega arith)
          (λ x e. pair_none g.T.HasId.id_of g.T.Located.placed c.args.table c.self.inside.rows.rows c.rows.index w.in-Some.row.now x w.in-Some.ensures e c.in_order.ensures.ordered own w.in_default-least_rival.ensures) so_far
      | in-Some+else-is_one_table w ↦
          let other : same_table (table_of (g.T.Located.placed w.in-Some.row.now).vrf) c.args.table ≡ false = ap (λ (t : Table). same_table t c.args.table) (sym (w.of.ensures ∙ ap table_of w.vrf.ensures)) ∙ sym w.is_one_table.ensures ∙ w.if-is_one_table.false in
          next_pair g.T.HasId.id_of g.T.Located.placed c.args.table c.self.inside.rows.rows c.rows.index (omega arith)
          (λ x e. pair_in_no_table g.T.HasId.id_of g.T.Located.placed c.args.table c.self.inside.rows.rows c.rows.index w.in-Some.row.now x w.in-Some.ensures e other) so_far
      | in_default w ↦ next_pair g.T.HasId.id_of g.T.Located.placed c.args.table c.self.inside.rows.rows c.rows.index (omega arith) (λ x e. (let wrong : None ≡ Some x = w.in_default.ensures ∙ e in cc)) so_far
    ] in
    subst (λ (rows : List g.row.T.Denot). least_pair g.T.HasId.id_of (coincide_in g.T.Located.placed c.args.table) rows ≡ least_pair g.T.HasId.id_of (coincide_in g.T.Located.placed c.args.table) (drop (c.rows.index + 1) rows)) is next

pub returns : goal.returns
returns g c =
    let is = ap length (ap (λ (b : TabledRows g.row.T.Denot). b.rows) c.self.view_is) in
    let len = c.len-count.ensures.len in
    let above = c.rows-test.false in
    no_more_pairs g.T.HasId.id_of g.T.Located.placed c.args.table c.args.self.now.rows c.rows.index (omega arith) c.rows.invariant
