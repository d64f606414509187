use Rattle.std.proofs.Common.{◌≡◌, ap, subst, arith}
use Rattle.std.specs.Prelude.{IfSome, IsSome, ◌↔◌}
use Rattle.inet_num.specs.Net.{Address, IsBlock, block_at}
use Rattle.radix_tree.proofs.Fitting.{none_from, place_first, place_low, place_high}
use Rattle.radix_tree.proofs.fits.+place_in.Goals as goal

pub returns-then-ends_before : goal.returns-then-ends_before
returns-then-ends_before u c = none_from c.args.land _ c.args.len c.args.from (c.ends_before.ensures.before c.if-ends_before.true)

pub returns-then-from-value : goal.returns-then-from-value
returns-then-from-value u c =
    let first = ap (λ (a : Address). a.value) c.first.ensures in
    let is = c.first-then-from-value.ensures in
    place_first c.args.land c.args.len c.args.from c.of.result c.requires.lawful c.requires.long c.requires.short (omega (arith, c.if-from-value.true, c.value.ensures.value, first))
    (subst (λ (a : Address). IfSome c.of.result (λ b. b ≡ block_at a c.args.len)) is c.of.ensures.some) (subst (λ (a : Address). IsSome c.of.result ↔ IsBlock (block_at a c.args.len)) is c.of.ensures.cause)

pub returns-in-Some : goal.returns-in-Some
returns-in-Some u c =
    place_low c.args.land c.args.len c.args.from c.half_of.result c.place_in.result c.in-Some.block c.requires.lawful c.requires.short (omega (arith, c.len.ensures.len, c.if-len.false, c.requires.long)) c.half_of.ensures c.in-Some.is c.place_in.ensures

pub returns : goal.returns
returns u c =
    place_high c.args.land c.args.len c.args.from c.half_of.result c.half_of-2.result c.place_in.result c.place_in-2.result c.requires.lawful c.requires.short (omega (arith, c.len.ensures.len, c.if-len.false, c.requires.long)) c.half_of.ensures c.half_of-2.ensures c.in_default.is c.place_in.ensures c.place_in-2.ensures
