use Rattle.std.proofs.Common.{◌+◌, ◌-◌, true, false, Option, refl, sym, ◌∙◌, ap, subst, arith}
use Rattle.inet_num.specs.Net.{Cidr, width_of, size_of, IsBlock}
use Rattle.block_space.specs.Listed.{counting_of}
use Rattle.radix_tree.specs.Shape.{HasRoom, IsLink}
use Rattle.radix_tree.specs.Listed.{blocks_of}
use Rattle.radix_tree.proofs.Sides.{has_first, half_family}
use Rattle.radix_tree.proofs.Joints.{half_lawful}
use Rattle.radix_tree.proofs.Lands.{land_free, land_taken}
use Rattle.radix_tree.proofs.Availing.{whole_available, before_available, single_available, avail_low, avail_high}
use Rattle.radix_tree.proofs.links.Linked.+available_below.Goals as goal

pub returns-then-ends_before : goal.returns-then-ends_before
returns-then-ends_before g u c =
    let land = c.args.land in
    before_available land (counting_of (blocks_of c.args.self.now.pool) land false) c.args.from (land.first + size_of land - 1) (λ a h. omega (arith, h.1)) (omega (arith, c.ends_before.ensures.before c.if-ends_before.true, (has_first land).1))

pub returns-in_default : goal.returns-in_default
returns-in_default g u c =
    let t = c.args.self.now in
    let link = subst (λ (x : Option _). IsLink t.pool x c.args.land) c.in_default.is c.requires.link in
    whole_available c.args.land (counting_of (blocks_of t.pool) c.args.land false) c.args.from c.unless_before.result c.requires.lawful (land_free t c.requires.sound.tree c.args.land false c.requires.family link) c.unless_before.ensures.some c.unless_before.ensures.none

pub returns-then-len-width : goal.returns-then-len-width
returns-then-len-width g u c =
    let top = c.requires.link.top c.in-Some.id c.in-Some.is in
    let fam = ap width_of c.requires.family in
    single_available c.args.self.now c.requires.sound c.args.land c.requires.lawful c.in-Some.id top.0 top.1 top.2 (omega (arith, c.len.ensures.len, c.width-width.ensures, c.if-len-width.true, fam)) c.args.from

pub available_below-requires : goal.available_below-requires
available_below-requires g u c κs lives =
    let t = c.args.self.now in
    let land = c.args.land in
    let fam_is = ap width_of c.requires.family in
    let short = c.requires.lawful.short in
    let room : HasRoom land = omega (arith, c.len.ensures.len, c.width-width.ensures, c.if-len-width.false, fam_is, short) in
    let is = c.half_of.ensures in
    let lawful = subst IsBlock (sym is) (half_lawful false land c.requires.lawful room) in
    let fam = ap (λ (b : Cidr). b.family) is ∙ half_family false land ∙ c.requires.family in
    let link = subst (IsLink t.pool c.in-Some-fitting_sides.sides.low) (sym is) (c.in-Some-fitting_sides.ensures.some.links false) in
    let len_is = ap (λ (b : Cidr). b.len) is in
    let width_is = ap (λ (b : Cidr). width_of b.family) is in
    (omega (arith, c.decreases, len_is, width_is, room), (lives, (c.requires.sound, (c.requires.frees, (lawful, (fam, link))))))

pub available_below-requires-2 : goal.available_below-requires-2
available_below-requires-2 g u c κs lives =
    let t = c.args.self.now in
    let land = c.args.land in
    let fam_is = ap width_of c.requires.family in
    let short = c.requires.lawful.short in
    let room : HasRoom land = omega (arith, c.len.ensures.len, c.width-width.ensures, c.if-len-width.false, fam_is, short) in
    let is = c.half_of-2.ensures in
    let lawful = subst IsBlock (sym is) (half_lawful true land c.requires.lawful room) in
    let fam = ap (λ (b : Cidr). b.family) is ∙ half_family true land ∙ c.requires.family in
    let link = subst (IsLink t.pool c.in-Some-fitting_sides.sides.high) (sym is) (c.in-Some-fitting_sides.ensures.some.links true) in
    let len_is = ap (λ (b : Cidr). b.len) is in
    let width_is = ap (λ (b : Cidr). width_of b.family) is in
    (omega (arith, c.decreases, len_is, width_is, room), (lives, (c.requires.sound, (c.requires.frees, (lawful, (fam, link))))))

pub returns-in-Some-available_below : goal.returns-in-Some-available_below
returns-in-Some-available_below g u c =
    let t = c.args.self.now in
    let land = c.args.land in
    let fam_is = ap width_of c.requires.family in
    let short = c.requires.lawful.short in
    let room : HasRoom land = omega (arith, c.len.ensures.len, c.width-width.ensures, c.if-len-width.false, fam_is, short) in
    let top = c.requires.link.top c.in-Some.id c.in-Some.is in
    let taken = land_taken t c.requires.sound land false c.in-Some.id top.0 top.1 top.2 (λ m k. refl) in
    avail_low t c.requires.sound land c.requires.lawful c.requires.family room false (λ id m e some k. c.in-Some-fitting_sides.ensures.some.others id m e some) taken c.args.from c.half_of.result c.half_of.ensures c.available_below.result
    c.in-Some-available_below.block c.in-Some-available_below.is c.available_below.ensures

pub returns : goal.returns
returns g u c =
    let t = c.args.self.now in
    let land = c.args.land in
    let fam_is = ap width_of c.requires.family in
    let short = c.requires.lawful.short in
    let room : HasRoom land = omega (arith, c.len.ensures.len, c.width-width.ensures, c.if-len-width.false, fam_is, short) in
    let top = c.requires.link.top c.in-Some.id c.in-Some.is in
    let taken = land_taken t c.requires.sound land false c.in-Some.id top.0 top.1 top.2 (λ m k. refl) in
    avail_high t c.requires.sound land c.requires.lawful c.requires.family room false (λ id m e some k. c.in-Some-fitting_sides.ensures.some.others id m e some) taken c.args.from c.half_of.result c.half_of.ensures c.available_below.result
    c.half_of-2.result c.half_of-2.ensures c.available_below-2.result c.in_default-available_below.is c.available_below.ensures c.available_below-2.ensures
