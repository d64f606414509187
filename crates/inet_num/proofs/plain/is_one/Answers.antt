use Rattle.std.proofs.Common.{◌≡◌, true, false, subst, sym, ◌∙◌, ap, rules, refl}
use Rattle.inet_num.specs.Net.{Cidr}
use Rattle.inet_num.specs.Free.{is_inside, meets}
use Rattle.std.specs.List.{list_any}
use Rattle.inet_num.proofs.PlainSearch.{contains_is, not_inside, of_length_0, enclosing_outside, by_enclosing}
use Rattle.inet_num.proofs.plain.is_one.Goals as goal

pub returns-then-not-contains : goal.returns-then-not-contains
returns-then-not-contains c =
    let out : c.contains.result ≡ false = search rules in
    not_inside c.args.within.now c.args.children.now c.args.block.now (contains_is c.contains.result c.args.block.now c.args.within.now c.requires c.contains.ensures ∙ out)

pub returns-in_default : goal.returns-in_default
returns-in_default c =
    let inside : c.contains.result ≡ true = search rules in
    let left : c.is_met.result ≡ false = search rules in
    of_length_0 c.args.within.now c.args.children.now c.args.block.now c.enclosing.ensures.lawful (contains_is c.contains.result c.args.block.now c.args.within.now c.requires c.contains.ensures ∙ inside) (sym c.is_met.ensures ∙ left) (λ h. let some = c.in_default.ensures.cause.1 h in cc)

pub returns-then-not-contains-2 : goal.returns-then-not-contains-2
returns-then-not-contains-2 c =
    let inside : c.contains.result ≡ true = search rules in
    let left : c.is_met.result ≡ false = search rules in
    let out : c.contains-2.result ≡ false = search rules in
    let at = c.in-Some.ensures.some in
    let family = c.requires in
    let outside = contains_is c.contains-2.result c.in-Some.enclosing c.args.within.now (ap (λ (b : Cidr). b.family) at ∙ family) c.contains-2.ensures ∙ out in
    enclosing_outside c.args.within.now c.args.children.now c.args.block.now c.enclosing.ensures.lawful (contains_is c.contains.result c.args.block.now c.args.within.now c.requires c.contains.ensures ∙ inside) (sym c.is_met.ensures ∙ left) (subst (λ (b : Cidr). is_inside b c.args.within.now ≡ false) at outside)

pub returns : goal.returns
returns c =
    let inside : c.contains.result ≡ true = search rules in
    let left : c.is_met.result ≡ false = search rules in
    let in_too : c.contains-2.result ≡ true = search rules in
    let at = c.in-Some.ensures.some in
    let family = c.requires in
    let within_too = contains_is c.contains-2.result c.in-Some.enclosing c.args.within.now (ap (λ (b : Cidr). b.family) at ∙ family) c.contains-2.ensures ∙ in_too in
    by_enclosing c.args.within.now c.args.children.now c.args.block.now c.is_met-2.result c.enclosing.ensures.lawful (contains_is c.contains.result c.args.block.now c.args.within.now c.requires c.contains.ensures ∙ inside) (sym c.is_met.ensures ∙ left) (c.in-Some.ensures.cause.0 refl)
    (subst (λ (b : Cidr). is_inside b c.args.within.now ≡ true) at within_too)
    (subst (λ (b : Cidr). list_any (meets b) c.args.children.now ≡ c.is_met-2.result) at (sym c.is_met-2.ensures))
