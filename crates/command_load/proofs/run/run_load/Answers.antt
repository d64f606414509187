use Rattle.std.proofs.Common.{◌≡◌, ◌++◌, ℕ, List, refl, ap, ◌∙◌}
use Rattle.command_load.specs.LoadText.{figures_text}
use Rattle.command_load.proofs.Ended.{printed, unprinted}
use Rattle.command_load.proofs.run.run_load.Goals as goal

pub returns-in_default : goal.returns-in_default
returns-in_default g c = unprinted c.args.count c.args.workers _ _ 5 refl refl

pub returns-in-Ok : goal.returns-in-Ok
returns-in-Ok g c =
    let f = c.in-Some.figures in
    let lines : c.as_slice.result.now ≡ figures_text f = c.as_slice.ensures.value ∙ (c.in-Ok.ensures ∙ ap (λ (l : List ℕ). l ++ figures_text f) c.new-text.ensures.items) in
    printed c.args.count c.args.workers _ _ _ f c.as_slice.result.now c.in-Some.ensures lines c.end_with.ensures.ends c.end_with.ensures.later

pub returns : goal.returns
returns g c = unprinted c.args.count c.args.workers _ _ 5 refl refl
