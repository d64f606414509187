use Rattle.std.proofs.Common.{[], ◌∷◌, sym, ap, ◌∙◌}
use Rattle.ipam_data.specs.declared.calls.Call.{Call}
use Rattle.command_load.proofs.Called.{made_first}
use Rattle.command_load.proofs.claims.create.Goals as goal

pub returns-clause-made : goal.returns-clause-made
returns-clause-made g c = λ t.
    made_first c.args.seat c.call-seat.result.0 c.in-Some.call c.call-seat.result.1 c.call-seat.result.2 c.call-seat.ensures c.requires.first.0 c.requires.first.1 (sym c.is_made-made.ensures ∙ t)
    ∙ ap (λ (x : Call). (c.args.seat.number, x) ∷ []) c.in-Some.ensures
