use Rattle.std.proofs.Common.{◌∙◌, ap}
use Rattle.std.specs.Str.{str_eq_ignore_ascii_case}
use Rattle.http_session.specs.Fields.{is_named}
use Rattle.http_session.proofs.FieldLemmas.{same_test}
use Rattle.http_session.proofs.fields.named.Goals as goal

pub returns : goal.returns
unfolding is_named
returns c = same_test _ _ _ c.eq_ignore_ascii_case.ensures.test ∙ ap (λ b. str_eq_ignore_ascii_case b c.args.name.now) c.of.ensures
