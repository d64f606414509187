use Rattle.std.proofs.Common.{◌≡◌, ℕ, ◌+◌, ◌*◌, ◌^◌, ◌<◌, Option, Some, None, IfNone, sym, ◌∙◌, arith}
use Rattle.std.proofs.lemmas.Slice.Eq.{bytes_eq-Decides}
use Rattle.reverse_zone.proofs.Labels.{zone_read, zone_only, no_labels, no_digit, no_rest, labels_read, number_read, sum_fits, product_fits}
use Rattle.reverse_zone.proofs.owner.+read_labels.Goals as goal

if_none : (r : Option ℕ) (P : Type 0) → P → IfNone r P
if_none None P h = h
if_none (Some n) P h = tt

pub returns-then-eq-clause-some : goal.returns-then-eq-clause-some
returns-then-eq-clause-some t c =
    let text = c.args.text.now in
    let zone = c.zone.result.now in
    zone_read c.args.family c.args.count text zone c.if-count-eq0.true c.zone.ensures.value ((bytes_eq-Decides text zone).0 (sym c.eq.ensures ∙ c.if-eq.true))

pub returns-else-eq-clause-none : goal.returns-else-eq-clause-none
returns-else-eq-clause-none t c = λ number small e.
    let text = c.args.text.now in
    let zone = c.zone.result.now in
    let same : text ≡ zone = zone_only c.args.family c.args.count number text zone c.if-count-eq0.true c.zone.ensures.value e in
    let yes = c.eq.ensures ∙ (bytes_eq-Decides text zone).1 same in
    let not = c.if-eq.false in cc

pub returns-in_err-label-clause-none : goal.returns-in_err-label-clause-none
returns-in_err-label-clause-none t c =
    if_none c.from_residual.result _ (λ number small. no_labels c.args.family c.args.count number c.args.text.now (omega arith) c.in_err-label.ensures.none)

pub returns-in_err-digit-clause-none : goal.returns-in_err-digit-clause-none
returns-in_err-digit-clause-none t c =
    let cut = c.in_ok-label.ensures in
    if_none c.from_residual-in_err-digit.result _
    (λ number small. no_digit c.args.family c.args.count number c.args.text.now c.in_ok-label.label.now c.in_ok-label.rest.now (omega arith) cut.some cut.front c.in_err-digit.ensures.none)

pub returns-in_err-high-clause-none : goal.returns-in_err-high-clause-none
returns-in_err-high-clause-none t c =
    let cut = c.in_ok-label.ensures in
    if_none c.from_residual-in_err-high.result _
    (λ number small. no_rest c.args.family c.args.count number c.args.text.now c.in_ok-label.label.now c.in_ok-label.rest.now (omega arith) cut.some cut.front c.in_err-high.ensures.none small)

pub overflow_mul-result : goal.overflow_mul-result
overflow_mul-result t c =
    let few : c.in_ok-high.high * c.base.result < 2 ^ 128 =
    product_fits c.args.family c.args.count c.in_ok-high.high c.base.result (omega arith) c.requires c.base.ensures.value c.in_ok-high.ensures.small in omega arith

pub overflow_add-result : goal.overflow_add-result
overflow_add-result t c =
    let few : c.in_ok-high.high * c.base.result + c.from.result < 2 ^ 128 =
    sum_fits c.args.family c.args.count c.in_ok-digit.digit c.in_ok-high.high c.base.result c.from.result (omega arith) c.requires c.base.ensures.value c.from.ensures c.in_ok-digit.ensures.small c.in_ok-high.ensures.small in omega arith

pub returns-clause-some : goal.returns-clause-some
returns-clause-some t c =
    let cut = c.in_ok-label.ensures in
    labels_read c.args.family c.args.count c.in_ok-digit.digit c.in_ok-high.high c.base.result c.from.result c.args.text.now c.in_ok-label.label.now c.in_ok-label.rest.now
    (omega arith) c.base.ensures.value c.from.ensures c.in_ok-digit.ensures.small cut.some c.in_ok-digit.ensures.some c.in_ok-high.ensures.some

pub returns-clause-small : goal.returns-clause-small
returns-clause-small t c =
    number_read c.args.family c.args.count c.in_ok-digit.digit c.in_ok-high.high c.base.result c.from.result (omega arith) c.base.ensures.value c.from.ensures c.in_ok-digit.ensures.small c.in_ok-high.ensures.small
