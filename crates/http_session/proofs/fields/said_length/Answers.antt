use Rattle.std.proofs.Common.{◌∙◌, sym, ap, refl}
use Rattle.httparse.specs.Spans.{header_bytes}
use Rattle.http_session.specs.Fields.{content_length, values_of, length_from}
use Rattle.http_session.proofs.FieldLemmas.{said_yes, said_no, two_values}
use Rattle.http_session.proofs.fields.said_length.Goals as goal
use Rattle.http_session.proofs.fields.said_length.Goals.{then-named+else-seen, else-named}

pub loop-field-init : goal.loop-field-init
unfolding values_of
loop-field-init c = (refl, refl)

pub returns-then-seen : goal.returns-then-seen
returns-then-seen c =
    let inv = rw c.if-seen.true at c.loop-field.invariant in
    sym (two_values (header_bytes c.args.front.now) content_length c.args.fields.now c.loop-field.field-index _ c.loop-field-test.true inv.0 (sym c.named.ensures ∙ c.if-named.true) inv.1)

pub loop-field-preserved : goal.loop-field-preserved
loop-field-preserved c = elim c.if-named.branch [
  | then-named+else-seen w ↦ rw (w.seen-is, w.said-is) (said_yes (header_bytes c.args.front.now) content_length c.args.fields.now c.loop-field.field-index _ c.loop-field-test.true c.loop-field.seen c.loop-field.said w.read_length-said.result
      (sym c.named.ensures ∙ w.if-named.true) w.if-seen.false c.loop-field.invariant (w.read_length-said.ensures ∙ ap length_from w.of.ensures))
  | else-named w ↦ rw (w.seen-is, w.said-is) (said_no (header_bytes c.args.front.now) content_length c.args.fields.now c.loop-field.field-index _ c.loop-field-test.true c.loop-field.seen c.loop-field.said (sym c.named.ensures ∙ w.if-named.false) c.loop-field.invariant)
]
