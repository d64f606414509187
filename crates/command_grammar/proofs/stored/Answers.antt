use Rattle.std.proofs.Common.{◌≡◌, ◌∙◌, IfOk, ap, ap₂, subst}
use Rattle.clap.specs.Words.{app_of}
use Rattle.clap.specs.Simple.{App, with_rule}
use Rattle.command_grammar.proofs.stored.Goals as goal

pub returns : goal.returns
returns c =
    let first = c.in_ok-command.ensures ∙ ap (with_rule (app_of c.args.command)) c.option.ensures.rule in
    subst (λ (a : App). IfOk c.with-2.result (λ d. app_of d ≡ a)) (ap₂ with_rule first c.option-2.ensures.rule) c.with-2.ensures
