use Rattle.std.proofs.Common.{◌≡◌, ℕ, ◌≤◌, ◌∙◌, subst, ap, arith, length}
use Rattle.std.proofs.lemmas.List.Sums.{count_by-le-length}
use Rattle.placed_book.specs.Book.{spare_of}
use Rattle.register_tables.specs.Held.{is_in}
use Rattle.register_tables.proofs.Counting.{ready_more}
use Rattle.register_tables.proofs.room.reserve_tables.Goals as goal

pub reserve_table_of-requires-clause-few : goal.reserve_table_of-requires-clause-few
reserve_table_of-requires-clause-few g c = λ t.
    let rows : length c.loop-view.book.rows ≡ length c.args.book.now.rows = ap length c.loop-view.invariant.1 in
    let same = c.in_ok-counts.ensures t in
    let le = count_by-le-length (is_in c.args.kind t) c.args.views.now in
    let few = c.requires.few in
    omega arith

pub loop-view-preserved : goal.loop-view-preserved
loop-view-preserved g c = (
  c.in_ok-reserve_table_of.ensures.order,
  c.in_ok-reserve_table_of.ensures.rows ∙ c.loop-view.invariant.1,
  c.in_ok-reserve_table_of.ensures.spare ∙ c.loop-view.invariant.2,
  λ t. ready_more (is_in c.args.kind t) c.args.views.now c.loop-view.view-index c.view-item-in-loop-view.result (spare_of c.loop-view.book.tables t) (spare_of c.reserve_table_of.new.book.tables t) c.loop-view-test.true c.view-item-in-loop-view.is
      (c.in_ok-reserve_table_of.ensures.kept t) (λ yes. subst (λ (n : ℕ). n ≤ spare_of c.reserve_table_of.new.book.tables t) (c.in_ok-counts.ensures t) (c.in_ok-reserve_table_of.ensures.ok t yes))
      (c.loop-view.invariant.3 t),
)
