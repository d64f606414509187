use Rattle.std.proofs.Common.{◌∙◌, sym, ap, refl}
use Rattle.httparse.specs.Spans.{header_bytes}
use Rattle.http_session.specs.Fields.{connection, values_of, names_close}
use Rattle.http_session.proofs.FieldLemmas.{close_found, close_more, unnamed, not_close}
use Rattle.http_session.proofs.fields.any_close.Goals as goal
use Rattle.http_session.proofs.fields.any_close.Goals.{else-named-via-then-named+else-has_close, else-named-via-else-named}

pub loop-field-init : goal.loop-field-init
unfolding values_of
loop-field-init c = refl

pub returns-then-has_close : goal.returns-then-has_close
returns-then-has_close c =
    sym (close_found (header_bytes c.args.front.now) connection c.args.fields.now c.loop-field.field-index _ c.loop-field-test.true (sym c.named.ensures ∙ c.if-named.true)
    (ap names_close (sym c.of.ensures) ∙ (sym c.has_close.ensures ∙ c.if-has_close.true)))

pub loop-field-preserved : goal.loop-field-preserved
loop-field-preserved c =
    close_more (header_bytes c.args.front.now) connection c.args.fields.now c.loop-field.field-index _ c.loop-field-test.true c.loop-field.invariant (elim c.else-named.branch [
      | else-named-via-then-named+else-has_close w ↦ not_close _ _ (ap names_close (sym w.of.ensures) ∙ (sym w.has_close.ensures ∙ w.if-has_close.false))
      | else-named-via-else-named w ↦ unnamed _ _ (sym c.named.ensures ∙ w.if-named.false)
    ])
