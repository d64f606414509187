use Rattle.std.proofs.Common.{◌∙◌, ap, codes, reverse}
use Rattle.std.specs.Str.{str_eq_ignore_ascii_case}
use Rattle.httparse.specs.Grammar.{skip_ows, trim_ows}
use Rattle.http_session.specs.Fields.{is_close}
use Rattle.http_session.proofs.FieldLemmas.{same_test}
use Rattle.http_session.proofs.fields.says_close.Goals as goal

pub returns : goal.returns
unfolding is_close trim_ows
returns c =
    same_test _ _ (codes "close") c.eq_ignore_ascii_case.ensures.test
    ∙ ap (λ text. str_eq_ignore_ascii_case text (codes "close")) (c.skip_white_back.ensures ∙ ap (λ text. reverse (skip_ows (reverse text))) c.skip_white.ensures)
