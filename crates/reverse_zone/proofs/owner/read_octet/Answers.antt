use Rattle.std.proofs.Common.{◌≡◌, sym, ◌∙◌, ap, subst, arith, decimal}
use Rattle.std.specs.Str.{IsAscii}
use Rattle.std.proofs.lemmas.Str.{IsUtf8-from_ascii}
use Rattle.std.proofs.lemmas.Slice.Eq.{bytes_eq-Decides}
use Rattle.std.proofs.lemmas.Fmt.{IsAscii-decimal, parse-decimal}
use Rattle.reverse_zone.proofs.owner.read_octet.Goals as goal

pub returns-in_default-clause-none : goal.returns-in_default-clause-none
returns-in_default-clause-none c = λ octet small e.
    c.in_default.ensures.cases.0 (IsUtf8-from_ascii c.args.label.now (subst IsAscii (sym e) (IsAscii-decimal octet (omega arith))))

pub returns-in_default-parse-clause-none : goal.returns-in_default-parse-clause-none
returns-in_default-parse-clause-none c = λ octet small e.
    let read = parse-decimal 8 octet c.in-Ok.text.now c.parse.result (omega arith) (omega arith) (c.in-Ok.ensures.cases.0 ∙ e) c.parse.ensures.value.0 in
    let fault = c.in_default-parse.is in cc

pub returns-else-eq-clause-none : goal.returns-else-eq-clause-none
returns-else-eq-clause-none c = λ octet small e.
    let read = parse-decimal 8 octet c.in-Ok.text.now c.parse.result (omega arith) (omega arith) (c.in-Ok.ensures.cases.0 ∙ e) c.parse.ensures.value.0 in
    let found = c.in-Ok-parse.is in
    let one : c.in-Ok-parse.octet ≡ octet = cc in
    let written : c.as_bytes.result.now ≡ c.args.label.now = c.as_bytes.ensures.value ∙ c.format.ensures.text ∙ ap decimal one ∙ sym e in
    let yes = c.eq.ensures ∙ (bytes_eq-Decides c.as_bytes.result.now c.args.label.now).1 written in
    let not = c.if-eq.false in cc
