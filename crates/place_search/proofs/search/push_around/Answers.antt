use Rattle.std.proofs.Common.{List, map, sym, subst, ◌∙◌}
use Rattle.std.proofs.lemmas.Result.{on_ok_weaker}
use Rattle.inet_num.specs.Net.{Cidr}
use Rattle.radix_tree.specs.Covering.{ListsCovering}
use Rattle.place_search.proofs.Gathered.{around_gathered}
use Rattle.place_search.proofs.search.push_around.Goals as goal

pub push_blocks-requires-clause-family : goal.push_blocks-requires-clause-family
push_blocks-requires-clause-family g c = λ b k.
    let lists = subst (λ (bs : List Cidr). ListsCovering c.in-Some.space.now.blocks c.args.block bs) (sym c.as_slice.ensures.value) c.in_ok-blocks.ensures in
    let each = lists.each b k in
    sym each.1.family ∙ sym c.family.ensures.family ∙ sym c.in-Some.ensures.family

pub returns : goal.returns
returns g c =
    let lists = subst (λ (bs : List Cidr). ListsCovering c.in-Some.space.now.blocks c.args.block bs) (sym c.as_slice.ensures.value) c.in_ok-blocks.ensures in
    on_ok_weaker c.push_blocks.result
    (λ e. around_gathered (map g.T.Located.placed c.args.book.now.rows) c.args.table c.args.block c.family.result c.in-Some.space.now.blocks c.as_slice.result.now c.args.ids.now.items c.push_blocks.new.ids.items c.family.ensures.family c.in-Some.ensures.blocks lists e)
    c.push_blocks.ensures
