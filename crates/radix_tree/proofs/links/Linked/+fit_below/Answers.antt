use Rattle.std.proofs.Common.{◌<◌, true, false, Option, None, refl, sym, ◌∙◌, ap, subst, arith}
use Rattle.inet_num.specs.Net.{Cidr, width_of, IsBlock}
use Rattle.block_space.specs.Fit.{IsFirstFit}
use Rattle.block_space.specs.Listed.{counting_of}
use Rattle.radix_tree.specs.Shape.{HasRoom, IsLink}
use Rattle.radix_tree.specs.Listed.{blocks_of}
use Rattle.radix_tree.specs.Fits.{IsQuick}
use Rattle.radix_tree.proofs.Sides.{half_family}
use Rattle.radix_tree.proofs.Joints.{half_lawful}
use Rattle.radix_tree.proofs.Lands.{land_free}
use Rattle.radix_tree.proofs.Fitting.{none_from, fit_agree, none_of_len, some_fits, fit_low, fit_high, quick_at_once, quick_here, quick_low, quick_high}
use Rattle.radix_tree.proofs.links.Linked.+fit_below.Goals as goal

pub returns-then-ends_before : goal.returns-then-ends_before
returns-then-ends_before g u c =
    let land = c.lands.land in
    let both = c.lands.invariant.leads None _ (none_from land (counting_of (blocks_of c.args.self.now.pool) land false) c.args.len c.args.from (c.ends_before.ensures.before c.if-ends_before.true)) (quick_at_once land c.args.from _ c.lands.steps) in
    record { first = both.0; quick = both.1 }

pub returns-in_default : goal.returns-in_default
returns-in_default g u c =
    let t = c.args.self.now in
    let v = c.lands.invariant in
    let land = c.lands.land in
    let link = subst (λ (x : Option _). IsLink t.pool x land) c.in_default.is v.link in
    let first = fit_agree _ (counting_of (blocks_of t.pool) land false) land c.args.len c.args.from (λ a h. sym (land_free t c.requires.sound.tree land false v.family link a h)) c.place_in.result c.place_in.ensures in
    let both = v.leads _ _ first (quick_at_once land c.args.from _ c.lands.steps) in
    record { first = both.0; quick = both.1 }

pub returns-then-len : goal.returns-then-len
returns-then-len g u c =
    let t = c.args.self.now in
    let v = c.lands.invariant in
    let land = c.lands.land in
    let top = v.link.top c.in-Some.id c.in-Some.is in
    let first = none_of_len t c.requires.sound land false c.in-Some.id top.0 top.1 top.2 (λ m i. refl) v.lawful c.args.len c.args.from (sym c.len.ensures.len ∙ c.if-len.true) in
    let both = v.leads None _ first (quick_at_once land c.args.from None c.lands.steps) in
    record { first = both.0; quick = both.1 }

pub returns-in_default-fitting_sides : goal.returns-in_default-fitting_sides
returns-in_default-fitting_sides g u c =
    let none : IsFirstFit c.lands.land (counting_of (blocks_of c.args.self.now.pool) c.lands.land false) c.args.len c.args.from None = λ b fits. c.fitting_sides.ensures.none c.in_default-fitting_sides.is b fits.lawful fits.inside (omega (arith, fits.len_is)) fits.free in
    let both = c.lands.invariant.leads None _ none (quick_here c.lands.land c.args.from None c.lands.steps c.fitting_sides.new.steps (c.ends_before.ensures.reaches c.if-ends_before.false) c.fitting_sides.ensures.cost) in
    record { first = both.0; quick = both.1 }

pub fit_below-requires : goal.fit_below-requires
fit_below-requires g u c κs lives =
    let t = c.args.self.now in
    let v = c.lands.invariant in
    let land = c.lands.land in
    let less : land.len < c.args.len = omega (arith, c.len.ensures.len, c.if-len.false, v.long) in
    let room : HasRoom land = omega (arith, less, v.short) in
    let is = c.half_of-low.ensures in
    let sides = c.in-Some-fitting_sides.sides in
    let lawful = subst IsBlock (sym is) (half_lawful false land v.lawful room) in
    let fam = ap (λ (b : Cidr). b.family) is ∙ half_family false land ∙ v.family in
    let link = subst (IsLink t.pool sides.low) (sym is) (c.in-Some-fitting_sides.ensures.some.links false) in
    let len_is = ap (λ (b : Cidr). b.len) is in
    let width_is = ap (λ (b : Cidr). width_of b.family) is in
    (omega (arith, c.decreases, v.smaller, len_is, width_is, less, room), (lives, (c.requires.sound, (c.requires.frees, (lawful, (fam, (link, (omega (arith, len_is, less), omega (arith, width_is, v.short)))))))))

pub returns-in-Some-fit_below : goal.returns-in-Some-fit_below
returns-in-Some-fit_below g u c =
    let t = c.args.self.now in
    let v = c.lands.invariant in
    let land = c.lands.land in
    let less : land.len < c.args.len = omega (arith, c.len.ensures.len, c.if-len.false, v.long) in
    let room : HasRoom land = omega (arith, less, v.short) in
    let first = fit_low t c.requires.sound land v.lawful v.family room false (λ id m e some k. c.in-Some-fitting_sides.ensures.some.others id m e some) c.args.len c.args.from less c.half_of-low.result c.half_of-low.ensures c.fit_below.result
    c.in-Some-fit_below.block c.in-Some-fit_below.is c.fit_below.ensures.first in
    let both = v.leads _ _ first (subst (λ (r : Option Cidr). IsQuick land c.args.from r c.lands.steps c.fit_below.new.steps) c.in-Some-fit_below.is
    (quick_low land room c.args.from c.half_of-low.result c.fit_below.result c.in-Some-fit_below.block c.lands.steps c.fitting_sides.new.steps c.fit_below.new.steps (c.ends_before.ensures.reaches c.if-ends_before.false) c.half_of-low.ensures c.in-Some-fit_below.is c.fitting_sides.ensures.cost c.fit_below.ensures.quick)) in
    record { first = both.0; quick = both.1 }

pub lands-preserved : goal.lands-preserved
lands-preserved g u c =
    let t = c.args.self.now in
    let v = c.lands.invariant in
    let land = c.lands.land in
    let less : land.len < c.args.len = omega (arith, c.len.ensures.len, c.if-len.false, v.long) in
    let room : HasRoom land = omega (arith, less, v.short) in
    let is = c.half_of-land.ensures in
    let sides = c.in-Some-fitting_sides.ensures.some in
    let len_is = ap (λ (b : Cidr). b.len) is in
    let width_is = ap (λ (b : Cidr). width_of b.family) is in
    let blocks = counting_of (blocks_of t.pool) land false in record {
      lawful = subst IsBlock (sym is) (half_lawful true land v.lawful room);
      family = ap (λ (b : Cidr). b.family) is ∙ half_family true land ∙ v.family;
      link = subst (IsLink t.pool c.in-Some-fitting_sides.sides.high) (sym is) (sides.links true);
      long = omega (arith, len_is, less);
      short = omega (arith, width_is, v.short);
      smaller = omega (arith, len_is, width_is, v.smaller);
      leads = λ r new found quick.
          let first = fit_high t c.requires.sound land v.lawful v.family room false (λ id m e some k. sides.others id m e some) c.args.len c.args.from less c.half_of-low.result c.half_of-low.ensures c.fit_below.result
          c.half_of-land.result c.half_of-land.ensures r c.in_default-fit_below.is c.fit_below.ensures.first found in
          v.leads r new first (quick_high land v.lawful room c.args.from c.half_of-low.result c.half_of-land.result c.fit_below.result r c.lands.steps c.fitting_sides.new.steps c.fit_below.new.steps new
          (c.ends_before.ensures.reaches c.if-ends_before.false) c.half_of-low.ensures c.half_of-land.ensures c.in_default-fit_below.is c.fitting_sides.ensures.cost
          (λ none early. some_fits land blocks c.args.len c.args.from sides.fits.0 sides.fits.1 sides.fits.2 sides.fits.3 sides.fits.4 v.short early (subst (IsFirstFit land blocks c.args.len c.args.from) none first)) c.fit_below.ensures.quick quick);
    }
