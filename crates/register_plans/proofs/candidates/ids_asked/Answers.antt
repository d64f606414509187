use Rattle.std.proofs.Common.{◌∙◌}
use Rattle.std.proofs.lemmas.Option.{IfSome_then}
use Rattle.std.proofs.lemmas.Result.{IfOk-weaker}
use Rattle.register_plans.proofs.Asked.{looked_up}
use Rattle.register_plans.proofs.candidates.ids_asked.Goals as goal

pub returns : goal.returns
returns g c =
    IfOk-weaker c.ids_in.result _ _
    (λ found p. IfSome_then found p
    (λ v h. looked_up g.T.HasId.id_of g.T.Located.placed c.args.book.now.rows c.args.row_tables.now.vrfs.rows c.args.vrf.now c.args.area.now c.as_slice.result.now v.items g.met.T.Located.same c.requires.there
    (c.as_slice.ensures.value ∙ c.in_ok-tables.ensures) h))
    c.ids_in.ensures
