use Rattle.std.proofs.Common.{◌≡◌, ap, map, sym, subst, ◌∙◌, List, Option, IsPermutation, filter}
use Rattle.inet_num.specs.declared.Family.{Family}
use Rattle.inet_num.specs.Net.{Cidr}
use Rattle.inet_num.specs.Blocks.{distinct, is_strictly_inside}
use Rattle.ipam_data.specs.Tables.{table_of}
use Rattle.placed_book.specs.Book.{TableBlocks, TabledRows, blocks_of_family, blocks_in, IsInOrder}
use Rattle.placed_book.specs.Figures.{around}
use Rattle.placed_book.proofs.Around.{around_any_order}
use Rattle.placed_book.proofs.Moves.{counted_around}
use Rattle.placed_book.proofs.Orders.{of_nothing}
use Rattle.placed_book.proofs.PlacedBook.count_around.Goals as goal

pub returns-in-Some : goal.returns-in-Some
returns-in-Some g c =
    let order = subst (λ (b : TabledRows g.row.T.Denot). IsInOrder g.T.Located.placed b) (sym c.self.view_is) c.requires in
    let held =
    ap (λ (o : Option TableBlocks). blocks_in o c.block-block.result.family) (sym c.in-Some.ensures) ∙ ap (λ (f : Family). blocks_of_family c.in-Some.spaces.now f) (sym c.family.ensures.family)
    ∙ sym c.space-space.ensures.held in
    let is = counted_around (map g.T.Located.placed c.self.inside.rows.rows) c.self.inside.tables (g.T.Located.placed c.args.row.now) c.of.result c.block-block.result c.around.result
    order.tables (c.of.ensures ∙ ap table_of c.vrf.ensures) c.block-block.ensures
    (λ blocks p. c.around.ensures ∙ around_any_order (g.S.Space.family_of c.space-space.result.now) c.block-block.result (g.S.Space.held c.space-space.result.now) blocks c.bounds.ensures
    (sym c.family.ensures.family ∙ sym c.space-space.ensures.family) c.lawful.ensures (subst (λ (bs : List Cidr). IsPermutation blocks bs) held p)) in
    subst (λ (b : TabledRows g.row.T.Denot). c.around.result ≡ around (map g.T.Located.placed b.rows) (g.T.Located.placed c.args.row.now)) c.self.view_is is

pub returns-in-None : goal.returns-in-None
returns-in-None g c =
    let order = subst (λ (b : TabledRows g.row.T.Denot). IsInOrder g.T.Located.placed b) (sym c.self.view_is) c.requires in
    let held = ap (λ (o : Option TableBlocks). blocks_in o c.block-block.result.family) (sym c.in-None.ensures) in
    let is = counted_around (map g.T.Located.placed c.self.inside.rows.rows) c.self.inside.tables (g.T.Located.placed c.args.row.now) c.of.result c.block-block.result 0
    order.tables (c.of.ensures ∙ ap table_of c.vrf.ensures) c.block-block.ensures
    (λ blocks p. sym (ap (λ (bs : List Cidr). distinct (filter (λ b. is_strictly_inside c.block-block.result b) bs)) (of_nothing blocks (subst (λ (bs : List Cidr). IsPermutation blocks bs) held p)))) in
    subst (λ (b : TabledRows g.row.T.Denot). 0 ≡ around (map g.T.Located.placed b.rows) (g.T.Located.placed c.args.row.now)) c.self.view_is is
