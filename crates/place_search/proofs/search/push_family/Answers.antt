use Rattle.std.proofs.Common.{map, subst}
use Rattle.std.proofs.lemmas.Result.{on_ok_weaker}
use Rattle.inet_num.specs.declared.Family.{Family}
use Rattle.block_space.specs.Listed.{AreBlocksOf}
use Rattle.place_search.proofs.Gathered.{family_gathered}
use Rattle.place_search.proofs.search.push_family.Goals as goal

pub returns : goal.returns
returns g c =
    let lawful = subst (λ (f : Family). AreBlocksOf f c.in-Some.space.now.blocks) c.in-Some.ensures.family c.lawful.ensures in
    on_ok_weaker c.push_entries.result
    (λ e. family_gathered (map g.T.Located.placed c.args.book.now.rows) c.args.table c.args.family c.whole-within.result c.in-Some.space.now.blocks _ c.args.ids.now.items c.push_entries.new.ids.items c.whole-within.ensures lawful c.in-Some.ensures.blocks c.inside.ensures e)
    c.push_entries.ensures
