use Rattle.std.proofs.Common.{◌≡◌, Some, None, ap, sym, ◌∙◌, lit<}
use Rattle.std.proofs.lemmas.Str.Pattern.{strip_suffix_char}
use Rattle.reverse_zone.specs.Names.{has_star}
use Rattle.reverse_zone.proofs.Bares.{stripped, unstripped, named}
use Rattle.reverse_zone.proofs.name.ptr_name.Goals as goal

pub returns-in-Some-clause-some : goal.returns-in-Some-clause-some
returns-in-Some-clause-some c =
    let text = c.args.dns_name.now in
    let plain : has_star text ≡ c.is_wildcard.result = ap has_star (sym c.as_bytes.ensures.value) ∙ sym c.is_wildcard.ensures in
    named text (sym c.is_empty.ensures ∙ c.if-is_empty.false) (plain ∙ c.if-is_wildcard.false)
    ∙ ap Some (stripped text c.in-Some.name.now (strip_suffix_char 46 text (Some c.in-Some.name) c.in-Some.ensures.cases (lit< tt)))

pub returns-in-None-clause-some : goal.returns-in-None-clause-some
returns-in-None-clause-some c =
    let text = c.args.dns_name.now in
    let plain : has_star text ≡ c.is_wildcard.result = ap has_star (sym c.as_bytes.ensures.value) ∙ sym c.is_wildcard.ensures in
    named text (sym c.is_empty.ensures ∙ c.if-is_empty.false) (plain ∙ c.if-is_wildcard.false)
    ∙ ap Some (unstripped text (strip_suffix_char 46 text None c.in-None.ensures.cases (lit< tt)))
