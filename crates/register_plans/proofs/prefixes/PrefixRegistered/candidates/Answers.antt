use Rattle.std.proofs.Common.{Bool, subst, Contains}
use Rattle.std.proofs.lemmas.Option.{IfSome_then}
use Rattle.std.proofs.lemmas.Result.{IfOk-weaker}
use Rattle.ipam_data.specs.declared.prefix.Prefix.{Prefix}
use Rattle.ipam_data.specs.Rows.{prefix_id}
use Rattle.placed_book.specs.Book.{TabledRows}
use Rattle.placed_book.specs.Kinds.{placed_prefix}
use Rattle.register_plans.specs.Meets.{prefix_meets}
use Rattle.register_plans.specs.Candidates.{AreCandidates, is_asked}
use Rattle.register_plans.proofs.Asked.{narrower, prefix_met}
use Rattle.register_plans.proofs.prefixes.PrefixRegistered.candidates.Goals as goal

pub ids_asked-requires-clause-there : goal.ids_asked-requires-clause-there
ids_asked-requires-clause-there c = λ row n d e. c.requires.prefixes.tables row n (subst (λ (b : TabledRows Prefix). Contains b.rows row) c.prefixes.ensures.book d) e

pub returns : goal.returns
returns c =
    let asked : Prefix → Bool = λ row. is_asked c.in-Prefixes.vrf_id c.area_asked-area.result (placed_prefix row) in
    IfOk-weaker c.ids_asked.result _ _
    (λ found p. IfSome_then found p
    (λ v h. narrower prefix_id asked (prefix_meets c.args.filter.now) c.args.row_tables.now.prefixes.rows v.items
    (prefix_met c.args.filter.now _ _ _ _ _ _ _ _ c.area_asked-area.result c.in-Prefixes.is c.area_asked-area.ensures)
    (subst (λ (b : TabledRows Prefix). AreCandidates prefix_id asked b.rows v.items) c.prefixes.ensures.book h)))
    c.ids_asked.ensures
