use Rattle.std.proofs.Common.{rules, ◌+◌, ◌^◌, ◌<◌, sym, subst, arith, length, map, List}
use Rattle.placed_book.specs.Book.{TabledRows, IsInOrder}
use Rattle.placed_book.specs.Firsts.{HasFirsts}
use Rattle.placed_book.proofs.Leasts.{same_firsts}
use Rattle.placed_book.proofs.Moves.{few_all_of}
use Rattle.placed_book.proofs.PlacedBook.reserve.Goals as goal

pub reserve-requires-3 : goal.reserve-requires-3
reserve-requires-3 g c = λ family.
    let order = subst (λ (b : TabledRows g.row.T.Denot). IsInOrder g.T.Located.placed b) (sym c.self.view_is) c.requires.order in
    let bound = subst (λ (b : TabledRows g.row.T.Denot). length b.rows + c.args.n < 2 ^ 30) (sym c.self.view_is) c.requires.few in
    let few = few_all_of g.T.HasId.id_of g.T.Located.placed g.met.T.Located.same c.self.inside.rows.rows c.self.inside.all family order.all in
    omega arith

pub invariant_of-self-then-self-n : goal.invariant_of-self-then-self-n
invariant_of-self-then-self-n g c = (
  search rules,
  search rules,
  search rules,
  subst (λ (xs : List g.row.T.Denot). HasFirsts (map g.T.Located.placed xs) c.reserve-2.new.self) (sym c.reserve.ensures.rows) (same_firsts (map g.T.Located.placed c.self.inside.rows.rows) c.self.inside.firsts c.reserve-2.new.self c.reserve-2.ensures.entries c.self.invariant.3),
)

pub invariant_of-self-else-self-n : goal.invariant_of-self-else-self-n
invariant_of-self-else-self-n g c = (
  search rules,
  search rules,
  search rules,
  subst (λ (xs : List g.row.T.Denot). HasFirsts (map g.T.Located.placed xs) c.reserve-2.new.self) (sym c.reserve.ensures.rows) (same_firsts (map g.T.Located.placed c.self.inside.rows.rows) c.self.inside.firsts c.reserve-2.new.self c.reserve-2.ensures.entries c.self.invariant.3),
)

pub invariant_of-self-in_err-reserve-3 : goal.invariant_of-self-in_err-reserve-3
invariant_of-self-in_err-reserve-3 g c = (
  search rules,
  search rules,
  search rules,
  subst (λ (xs : List g.row.T.Denot). HasFirsts (map g.T.Located.placed xs) c.reserve-2.new.self) (sym c.reserve.ensures.rows) (same_firsts (map g.T.Located.placed c.self.inside.rows.rows) c.self.inside.firsts c.reserve-2.new.self c.reserve-2.ensures.entries c.self.invariant.3),
)
