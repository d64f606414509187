use Rattle.std.proofs.Common.{◌∙◌, sym}
use Rattle.std.proofs.lemmas.List.Folds.{list_any_at}
use Rattle.httparse.specs.Spans.{header_bytes}
use Rattle.http_session.specs.Fields.{is_named}
use Rattle.http_session.proofs.FieldLemmas.{list_any-map}
use Rattle.http_session.proofs.fields.any_named.Goals as goal

pub returns-then-named : goal.returns-then-named
returns-then-named c =
    sym (list_any-map (is_named c.args.name.now) (header_bytes c.args.front.now) c.args.fields.now
    ∙ list_any_at (λ f. is_named c.args.name.now (header_bytes c.args.front.now f)) c.args.fields.now c.loop-field.field-index _ c.loop-field-test.true (sym c.named.ensures ∙ c.if-named.true))
