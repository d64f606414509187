use Rattle.std.proofs.Common.{true, false, IsTrue, refl, subst, sym, arith}
use Rattle.inet_num.specs.Net.{IsInside}
use Rattle.radix_tree.specs.Shape.{half, HasRoom}
use Rattle.radix_tree.proofs.Joints.{in_other}
use Rattle.radix_tree.proofs.Fitting.{top_in, none_free, own_sides, beside_sides}
use Rattle.radix_tree.proofs.links.Linked.fitting_sides.Goals as goal

pub returns-then-not-reaches-clause-none : goal.returns-then-not-reaches-clause-none
returns-then-not-reaches-clause-none g c = λ none.
    none_free c.args.self.now c.requires.sound c.requires.frees c.args.land.now c.requires.lawful c.requires.family c.args.id c.visit-node.result.now c.visit-node.ensures.node c.requires.link c.args.len (c.is.ensures.0 c.if-is.true)
    (λ r. (let f : IsTrue false = c.if-not-reaches.ensures.1 r in cc))

pub returns-then-is-clause-some : goal.returns-then-is-clause-some
returns-then-is-clause-some g c =
    let room : HasRoom c.args.land.now = omega (arith, c.requires.long, c.requires.short) in
    own_sides c.args.self.now c.requires.sound c.requires.frees c.args.land.now c.requires.lawful c.requires.family c.args.id c.visit-node.result.now c.visit-node.ensures.node c.requires.link c.args.len (c.is.ensures.0 c.if-is.true) room
    (c.reaches.ensures.0 c.if-not-reaches.false) c.sides.result c.sides.ensures.low c.sides.ensures.high

pub returns-then-contains-clause-some : goal.returns-then-contains-clause-some
returns-then-contains-clause-some g c =
    let n = c.visit-node.result.now in
    let low : IsInside n.block (half false c.args.land.now) = subst (IsInside n.block) c.half_of.ensures (c.contains.ensures.0 c.if-contains.true) in
    beside_sides c.args.self.now c.requires.sound c.requires.frees c.args.land.now c.requires.lawful c.requires.family c.args.id n c.visit-node.ensures.node c.requires.link c.args.len (λ same. (let f : IsTrue false = c.if-is.ensures.1 same in cc)) c.requires.long
    false low _ refl refl

pub returns-clause-some : goal.returns-clause-some
returns-clause-some g c =
    let t = c.args.self.now in
    let n = c.visit-node.result.now in
    let land = c.args.land.now in
    let e = c.visit-node.ensures.node in
    let own = (c.requires.sound.tree.each c.args.id n e).lawful in
    let inside = top_in t c.requires.sound c.requires.frees land c.requires.lawful c.requires.family c.args.id n e c.requires.link c.args.len in
    let high : IsInside n.block (half true land) = in_other land n.block false c.requires.lawful own inside (λ same. (let f : IsTrue false = c.if-is.ensures.1 same in cc))
    (λ i. (let f : IsTrue false = c.if-contains.ensures.1 (subst (IsInside n.block) (sym c.half_of.ensures) i) in cc)) in
    beside_sides t c.requires.sound c.requires.frees land c.requires.lawful c.requires.family c.args.id n e c.requires.link c.args.len (λ same. (let f : IsTrue false = c.if-is.ensures.1 same in cc)) c.requires.long
    true high _ refl refl
