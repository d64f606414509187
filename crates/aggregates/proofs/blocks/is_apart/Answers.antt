use Rattle.std.proofs.Common.{◌≡◌, false, true, map, subst, IsPermutation}
use Rattle.inet_num.specs.declared.Family.{Family}
use Rattle.ipam_data.specs.declared.kinds.Table.TheVariants.{Global}
use Rattle.placed_book.specs.Book.{blocks_of_rows}
use Rattle.placed_book.specs.Kinds.{placed_aggregate}
use Rattle.aggregates.proofs.Overlaps.{none_overlaps, alone, turned_down}
use Rattle.aggregates.proofs.blocks.is_apart.Goals as goal

pub returns-in-Some : goal.returns-in-Some
returns-in-Some g c = λ yes.
    none_overlaps c.args.book.now.rows c.args.row.now (g.S.Space.held c.in-Some.space.now) c.bounds.ensures
    (subst (λ (f : Family). IsPermutation (blocks_of_rows (map placed_aggregate c.args.book.now.rows) Global f) (g.S.Space.held c.in-Some.space.now)) c.family.ensures.family c.in-Some.ensures.blocks)
    (c.has_other.ensures (turned_down c.has_other.result yes))
    (alone c.args.book.now.rows c.args.row.now c.is_alone.result c.if-not-is_alone.false c.is_alone.ensures)
