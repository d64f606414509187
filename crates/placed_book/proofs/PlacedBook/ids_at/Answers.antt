use Rattle.std.proofs.Common.{◌≡◌, ◌++◌, [], ◌∷◌, ◌∙◌, ℕ, List, sym, ap, subst, map}
use Rattle.placed_book.specs.Book.{TabledRows, IsInOrder}
use Rattle.placed_book.specs.Firsts.{ids_at}
use Rattle.placed_book.proofs.Listed.{nothing_at, one_at}
use Rattle.placed_book.proofs.PlacedBook.ids_at.Goals as goal

pub returns-in_default : goal.returns-in_default
returns-in_default g c =
    let none = nothing_at (map g.T.Located.placed c.self.inside.rows.rows) c.self.inside.firsts c.spot_at.result c.args.table c.args.block c.self.invariant.3 c.spot_at.ensures c.in_default.ensures.value in
    c.new-ids.ensures.items ∙ subst (λ (b : TabledRows g.row.T.Denot). [] ≡ ids_at (map g.T.Located.placed b.rows) c.args.table c.args.block) c.self.view_is none

pub returns-then-times-eq1 : goal.returns-then-times-eq1
returns-then-times-eq1 g c =
    let order = subst (λ (b : TabledRows g.row.T.Denot). IsInOrder g.T.Located.placed b) (sym c.self.view_is) c.requires in
    let one = one_at (map g.T.Located.placed c.self.inside.rows.rows) c.self.inside.tables c.self.inside.firsts c.spot_at.result c.args.table c.args.block c.in-Some.first.now c.times.result order.tables c.self.invariant.3 c.spot_at.ensures
    c.in-Some.ensures.value c.times.ensures c.if-times-eq1.true in
    c.in_ok-push.ensures.items ∙ ap (λ (ns : List ℕ). ns ++ c.in-Some.first.now ∷ []) c.new-ids.ensures.items
    ∙ subst (λ (b : TabledRows g.row.T.Denot). c.in-Some.first.now ∷ [] ≡ ids_at (map g.T.Located.placed b.rows) c.args.table c.args.block) c.self.view_is one
