use Rattle.std.proofs.Common.{◌≡◌, ℕ, ◌+◌, ◌<◌, ◌≤◌, Bool, true, false, IsTrue, Option, refl, sym, ◌∙◌, ap, subst, arith}
use Rattle.inet_num.specs.Net.{width_of, IsInside}
use Rattle.inet_num.proofs.Nested.{inside_trans}
use Rattle.block_space.specs.Listed.{counting_of, covered_of}
use Rattle.radix_tree.specs.declared.Node.{Node}
use Rattle.radix_tree.specs.declared.links.Place.TheVariants.{Under}
use Rattle.radix_tree.specs.Shape.{half, HasRoom, HasLink}
use Rattle.radix_tree.specs.Listed.{blocks_of}
use Rattle.radix_tree.proofs.Sides.{half_in}
use Rattle.radix_tree.proofs.Order.{one_node, some_same}
use Rattle.radix_tree.proofs.Covered.{covered_clear, covered_apart, covered_land, covered_single, covered_strict, covered_fits, child_inside, child_long, inner_long, halves_fit}
use Rattle.radix_tree.proofs.links.Linked.covered.Goals as goal

pub returns-in_default : goal.returns-in_default
returns-in_default g c =
    let t = c.args.self.now in
    let w = c.requires.sound in
    let within = c.args.within.now in
    let f = c.find-found.result in
    let is = c.find-found.ensures.found in
    sym (covered_clear t w.tree f.place f.at f.land within c.args.strict is.here c.requires.family is.inside c.in_default.is)

pub returns-then-not-contains : goal.returns-then-not-contains
returns-then-not-contains g c =
    let t = c.args.self.now in
    let w = c.requires.sound in
    let within = c.args.within.now in
    let f = c.find-found.result in
    let is = c.find-found.ensures.found in
    let id = c.in-Some.id in
    let n = c.visit-node.result.now in
    let e = c.visit-node.ensures.node in
    let link = subst (λ (x : Option ℕ). HasLink t f.place x f.land) c.in-Some.is is.here in
    sym (covered_apart t w f.place f.land within c.args.strict id n link e c.requires.lawful c.requires.family is.inside (λ i. (let x : IsTrue false = c.if-not-contains.ensures.1 i in cc)) (λ i. is.stops id n c.in-Some.is e i))

pub covered_below-requires-clause-long : goal.covered_below-requires-clause-long
covered_below-requires-clause-long g c =
    let t = c.args.self.now in
    let w = c.requires.sound in
    let within = c.args.within.now in
    let f = c.find-found.result in
    let is = c.find-found.ensures.found in
    let id = c.in-Some.id in
    let n = c.visit-node.result.now in
    let e = c.visit-node.ensures.node in
    let link = subst (λ (x : Option ℕ). HasLink t f.place x f.land) c.in-Some.is is.here in
    let inside : IsInside n.block within = c.contains.ensures.0 c.if-not-contains.false in
    λ j m k h.
    let same : n ≡ m = one_node t.pool id j n m (some_same id j (sym c.in-Some.is ∙ k)) e h in
    subst (λ (x : Node). 1 ≤ x.block.len) same (inner_long n.block within (w.tree.each id n e).lawful c.requires.lawful inside c.requires.long)

pub returns-then-not-is_left_out : goal.returns-then-not-is_left_out
returns-then-not-is_left_out g c =
    let t = c.args.self.now in
    let w = c.requires.sound in
    let within = c.args.within.now in
    let f = c.find-found.result in
    let is = c.find-found.ensures.found in
    let id = c.in-Some.id in
    let n = c.visit-node.result.now in
    let e = c.visit-node.ensures.node in
    let link = subst (λ (x : Option ℕ). HasLink t f.place x f.land) c.in-Some.is is.here in
    let inside : IsInside n.block within = c.contains.ensures.0 c.if-not-contains.false in
    c.covered_below.ensures f.place f.land within is.here (λ j m k h.
    let same : n ≡ m = one_node t.pool id j n m (some_same id j (sym c.in-Some.is ∙ k)) e h in
    subst (λ (x : Node). IsInside x.block within) same inside)
    ∙ sym (covered_land t w f.place f.land within c.args.strict id n link e c.requires.family is.inside inside (λ s same. (let x : IsTrue false = c.if-not-is_left_out.ensures.1 (s, same) in cc)) (λ i. is.stops id n c.in-Some.is e i))

pub returns-then-len-width : goal.returns-then-len-width
returns-then-len-width g c =
    let t = c.args.self.now in
    let w = c.requires.sound in
    let within = c.args.within.now in
    let f = c.find-found.result in
    let is = c.find-found.ensures.found in
    let id = c.in-Some.id in
    let n = c.visit-node.result.now in
    let e = c.visit-node.ensures.node in
    let link = subst (λ (x : Option ℕ). HasLink t f.place x f.land) c.in-Some.is is.here in
    let inside : IsInside n.block within = c.contains.ensures.0 c.if-not-contains.false in
    let left = c.is_left_out.ensures.0 c.if-not-is_left_out.false in
    let fam = ap width_of c.requires.family in
    let full : within.len ≡ width_of within.family = omega (arith, c.len.ensures.len, c.width.ensures, c.if-len-width.true, fam) in
    subst (λ (s : Bool). 0 ≡ covered_of (counting_of (blocks_of t.pool) within s) within) (sym left.0) (sym (covered_single t w.tree within c.requires.lawful c.requires.family full))

pub covered_below-low-requires-clause-place : goal.covered_below-low-requires-clause-place
covered_below-low-requires-clause-place g c =
    let t = c.args.self.now in
    let w = c.requires.sound in
    let within = c.args.within.now in
    let f = c.find-found.result in
    let is = c.find-found.ensures.found in
    let id = c.in-Some.id in
    let n = c.visit-node.result.now in
    let e = c.visit-node.ensures.node in
    let link = subst (λ (x : Option ℕ). HasLink t f.place x f.land) c.in-Some.is is.here in
    let inside : IsInside n.block within = c.contains.ensures.0 c.if-not-contains.false in
    let left = c.is_left_out.ensures.0 c.if-not-is_left_out.false in
    let fam = ap width_of c.requires.family in
    let short = c.requires.lawful.short in
    let room_within : within.len < width_of within.family = omega (arith, c.len.ensures.len, c.width.ensures, c.if-len-width.false, fam, short) in
    let room : HasRoom n.block = subst HasRoom (sym left.1) room_within in
    (Under id false, half false n.block, (n, e, room, refl, refl))

pub covered_below-low-requires-clause-long : goal.covered_below-low-requires-clause-long
covered_below-low-requires-clause-long g c =
    let t = c.args.self.now in
    let w = c.requires.sound in
    let within = c.args.within.now in
    let f = c.find-found.result in
    let is = c.find-found.ensures.found in
    let id = c.in-Some.id in
    let n = c.visit-node.result.now in
    let e = c.visit-node.ensures.node in
    let link = subst (λ (x : Option ℕ). HasLink t f.place x f.land) c.in-Some.is is.here in
    let inside : IsInside n.block within = c.contains.ensures.0 c.if-not-contains.false in
    let left = c.is_left_out.ensures.0 c.if-not-is_left_out.false in
    let fam = ap width_of c.requires.family in
    let short = c.requires.lawful.short in
    let room_within : within.len < width_of within.family = omega (arith, c.len.ensures.len, c.width.ensures, c.if-len-width.false, fam, short) in
    let room : HasRoom n.block = subst HasRoom (sym left.1) room_within in
    λ j m k h. child_long t w id n e room false j m k h

pub covered_below-high-requires-clause-place : goal.covered_below-high-requires-clause-place
covered_below-high-requires-clause-place g c =
    let t = c.args.self.now in
    let w = c.requires.sound in
    let within = c.args.within.now in
    let f = c.find-found.result in
    let is = c.find-found.ensures.found in
    let id = c.in-Some.id in
    let n = c.visit-node.result.now in
    let e = c.visit-node.ensures.node in
    let link = subst (λ (x : Option ℕ). HasLink t f.place x f.land) c.in-Some.is is.here in
    let inside : IsInside n.block within = c.contains.ensures.0 c.if-not-contains.false in
    let left = c.is_left_out.ensures.0 c.if-not-is_left_out.false in
    let fam = ap width_of c.requires.family in
    let short = c.requires.lawful.short in
    let room_within : within.len < width_of within.family = omega (arith, c.len.ensures.len, c.width.ensures, c.if-len-width.false, fam, short) in
    let room : HasRoom n.block = subst HasRoom (sym left.1) room_within in
    (Under id true, half true n.block, (n, e, room, refl, refl))

pub covered_below-high-requires-clause-long : goal.covered_below-high-requires-clause-long
covered_below-high-requires-clause-long g c =
    let t = c.args.self.now in
    let w = c.requires.sound in
    let within = c.args.within.now in
    let f = c.find-found.result in
    let is = c.find-found.ensures.found in
    let id = c.in-Some.id in
    let n = c.visit-node.result.now in
    let e = c.visit-node.ensures.node in
    let link = subst (λ (x : Option ℕ). HasLink t f.place x f.land) c.in-Some.is is.here in
    let inside : IsInside n.block within = c.contains.ensures.0 c.if-not-contains.false in
    let left = c.is_left_out.ensures.0 c.if-not-is_left_out.false in
    let fam = ap width_of c.requires.family in
    let short = c.requires.lawful.short in
    let room_within : within.len < width_of within.family = omega (arith, c.len.ensures.len, c.width.ensures, c.if-len-width.false, fam, short) in
    let room : HasRoom n.block = subst HasRoom (sym left.1) room_within in
    λ j m k h. child_long t w id n e room true j m k h

pub overflow_add-result : goal.overflow_add-result
overflow_add-result g c =
    let t = c.args.self.now in
    let w = c.requires.sound in
    let within = c.args.within.now in
    let f = c.find-found.result in
    let is = c.find-found.ensures.found in
    let id = c.in-Some.id in
    let n = c.visit-node.result.now in
    let e = c.visit-node.ensures.node in
    let link = subst (λ (x : Option ℕ). HasLink t f.place x f.land) c.in-Some.is is.here in
    let inside : IsInside n.block within = c.contains.ensures.0 c.if-not-contains.false in
    let left = c.is_left_out.ensures.0 c.if-not-is_left_out.false in
    let fam = ap width_of c.requires.family in
    let short = c.requires.lawful.short in
    let room_within : within.len < width_of within.family = omega (arith, c.len.ensures.len, c.width.ensures, c.if-len-width.false, fam, short) in
    let room : HasRoom n.block = subst HasRoom (sym left.1) room_within in
    let low = c.covered_below-low.ensures (Under id false) (half false n.block) (half false n.block) (n, e, room, refl, refl) (λ j m k h. child_inside t w id n e room false j m k h) in
    let high = c.covered_below-high.ensures (Under id true) (half true n.block) (half true n.block) (n, e, room, refl, refl) (λ j m k h. child_inside t w id n e room true j m k h) in
    let low_fits = covered_fits (counting_of (blocks_of t.pool) (half false n.block) false) (half false n.block) in
    let high_fits = covered_fits (counting_of (blocks_of t.pool) (half true n.block) false) (half true n.block) in
    let long = inner_long n.block within (w.tree.each id n e).lawful c.requires.lawful inside c.requires.long in
    omega (arith, halves_fit n.block room long c.covered_below-low.result c.covered_below-high.result (omega (arith, low, low_fits)) (omega (arith, high, high_fits)))

pub returns : goal.returns
returns g c =
    let t = c.args.self.now in
    let w = c.requires.sound in
    let within = c.args.within.now in
    let f = c.find-found.result in
    let is = c.find-found.ensures.found in
    let id = c.in-Some.id in
    let n = c.visit-node.result.now in
    let e = c.visit-node.ensures.node in
    let link = subst (λ (x : Option ℕ). HasLink t f.place x f.land) c.in-Some.is is.here in
    let inside : IsInside n.block within = c.contains.ensures.0 c.if-not-contains.false in
    let left = c.is_left_out.ensures.0 c.if-not-is_left_out.false in
    let fam = ap width_of c.requires.family in
    let short = c.requires.lawful.short in
    let room_within : within.len < width_of within.family = omega (arith, c.len.ensures.len, c.width.ensures, c.if-len-width.false, fam, short) in
    let room : HasRoom n.block = subst HasRoom (sym left.1) room_within in
    let low = c.covered_below-low.ensures (Under id false) (half false n.block) within (n, e, room, refl, refl) (λ j m k h. inside_trans m.block (half false n.block) within (child_inside t w id n e room false j m k h) (inside_trans (half false n.block) n.block within (half_in false n.block room) inside)) in
    let high = c.covered_below-high.ensures (Under id true) (half true n.block) within (n, e, room, refl, refl) (λ j m k h. inside_trans m.block (half true n.block) within (child_inside t w id n e room true j m k h) (inside_trans (half true n.block) n.block within (half_in true n.block room) inside)) in
    let both = covered_strict t w f.place f.land within id n link e left.1 room in
    subst (λ (s : Bool). c.covered_below-low.result + c.covered_below-high.result ≡ covered_of (counting_of (blocks_of t.pool) within s) within) (sym left.0) (omega (arith, low, high, both))
