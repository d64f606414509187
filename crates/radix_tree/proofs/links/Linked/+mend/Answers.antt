use Rattle.std.proofs.Common.{ℕ, false, IsTrue, Option, refl, sym, ap, subst, arith}
use Rattle.inet_num.specs.Net.{IsInside, IsStrictlyInside}
use Rattle.radix_tree.specs.declared.links.Place.TheVariants.{Under}
use Rattle.radix_tree.specs.Shape.{half, HasLink, rank}
use Rattle.radix_tree.specs.Frees.{figures_of, HasFreesIn}
use Rattle.radix_tree.proofs.Descent.{rank_child, strict_room}
use Rattle.radix_tree.proofs.Mending.{refreed_one, refreed_both, refreed_link, refreed_tree, refreed_sound, mended_in, below_own, below_half, in_none, in_apart}
use Rattle.radix_tree.proofs.links.Linked.+mend.Goals as goal

pub returns-in_default-clause-frees : goal.returns-in_default-clause-frees
returns-in_default-clause-frees g u c = λ place land link but. in_none c.args.self.now c.requires.sound.tree c.args.at place land c.args.block.now link c.in_default.is but

pub returns-then-not-contains-clause-frees : goal.returns-then-not-contains-clause-frees
returns-then-not-contains-clause-frees g u c = λ place land link but.
    let t = c.args.self.now in
    let n = c.visit-node.result.now in
    let here = subst (λ (x : Option ℕ). HasLink t place x land) c.in-Some.is link in
    in_apart t c.requires.sound.tree c.in-Some.id n place land c.args.block.now here c.visit-node.ensures.node (λ i. (let x : IsTrue false = c.if-not-contains.ensures.1 i in cc)) but

pub returns-then-is-clause-refrees : goal.returns-then-is-clause-refrees
returns-then-is-clause-refrees g u c =
    let n = c.visit-node.result.now in
    refreed_one c.args.self.now c.refree.new.self c.in-Some.id n (figures_of c.args.self.now.pool n) c.visit-node.ensures.node (c.refree.ensures n c.visit-node.ensures.node)

pub returns-then-is-clause-frees : goal.returns-then-is-clause-frees
returns-then-is-clause-frees g u c = λ place land link but.
    let t = c.args.self.now in
    let w = c.requires.sound.tree in
    let n = c.visit-node.result.now in
    let e = c.visit-node.ensures.node in
    let id = c.in-Some.id in
    let block = c.args.block.now in
    let here = subst (λ (x : Option ℕ). HasLink t place x land) c.in-Some.is link in
    let inside : IsInside block n.block = c.contains.ensures.0 c.if-not-contains.false in
    mended_in t c.refree.new.self w id n e (c.refree.ensures n e) block inside but (below_own t w id n e block (c.is.ensures.0 c.if-is.true) but) place land here

pub is_in_high_half-high-requires-clause-lawful_around : goal.is_in_high_half-high-requires-clause-lawful_around
is_in_high_half-high-requires-clause-lawful_around g u c = (c.requires.sound.tree.each c.in-Some.id c.visit-node.result.now c.visit-node.ensures.node).lawful

pub is_in_high_half-high-requires-clause-inside : goal.is_in_high_half-high-requires-clause-inside
is_in_high_half-high-requires-clause-inside g u c = record { inside = c.contains.ensures.0 c.if-not-contains.false; other = λ same. (let x : IsTrue false = c.if-is.ensures.1 (sym same) in cc) }

pub mend-requires : goal.mend-requires
mend-requires g u c κs lives =
    let t = c.args.self.now in
    let n = c.visit-node.result.now in
    let e = c.visit-node.ensures.node in
    let strict : IsStrictlyInside c.args.block.now n.block = record { inside = c.contains.ensures.0 c.if-not-contains.false; other = λ same. (let x : IsTrue false = c.if-is.ensures.1 (sym same) in cc) } in
    let room = strict_room t c.requires.sound.tree c.args.block.now c.requires.lawful c.in-Some.id n e strict in
    let high = c.is_in_high_half-high.result in
    let less = rank_child t c.requires.sound.tree c.in-Some.id n high e room in
    let at_is = ap (rank t.pool) c.in-Some.is in
    let to_is = ap (rank t.pool) c.link-below.ensures in
    (omega (arith, c.decreases, less, at_is, to_is), (lives, (c.requires.sound, (c.requires.lawful, (Under c.in-Some.id high, half high n.block, (n, e, room, c.link-below.ensures, refl))))))

pub refree-requires-2-clause-sound : goal.refree-requires-2-clause-sound
refree-requires-2-clause-sound g u c = refreed_sound c.args.self.now c.mend.new.self c.mend.ensures.refrees c.requires.sound

pub returns-clause-refrees : goal.returns-clause-refrees
returns-clause-refrees g u c =
    let mid = c.mend.new.self in
    let kept = c.mend.ensures.refrees.kept c.in-Some.id c.visit-node.result.now c.visit-node.ensures.node in
    refreed_both c.args.self.now mid c.refree-2.new.self c.mend.ensures.refrees (refreed_one mid c.refree-2.new.self c.in-Some.id kept.0 (figures_of mid.pool kept.0) kept.1 (c.refree-2.ensures kept.0 kept.1))

pub returns-clause-frees : goal.returns-clause-frees
returns-clause-frees g u c = λ place land link but.
    let t = c.args.self.now in
    let w = c.requires.sound.tree in
    let n = c.visit-node.result.now in
    let e = c.visit-node.ensures.node in
    let id = c.in-Some.id in
    let block = c.args.block.now in
    let strict : IsStrictlyInside block n.block = record { inside = c.contains.ensures.0 c.if-not-contains.false; other = λ same. (let x : IsTrue false = c.if-is.ensures.1 (sym same) in cc) } in
    let room = strict_room t w block c.requires.lawful id n e strict in
    let high = c.is_in_high_half-high.result in
    let in_half = c.is_in_high_half-high.ensures in
    let mid = c.mend.new.self in
    let re = c.mend.ensures.refrees in
    let kept = re.kept id n e in
    let here = refreed_link t mid re place c.args.at land link in
    let there = subst (λ (x : Option ℕ). HasLink mid place x land) c.in-Some.is here in
    let ih : HasFreesIn mid.pool block (half high n.block) = c.mend.ensures.frees (Under id high) (half high n.block) (n, e, room, c.link-below.ensures, refl) but in
    let wm = refreed_tree t mid re w in
    let same = sym kept.2.block in
    let inside = subst (IsInside block) same strict.inside in
    mended_in mid c.refree-2.new.self wm id kept.0 kept.1 (c.refree-2.ensures kept.0 kept.1) block inside ih.0
    (below_half mid wm id kept.0 kept.1 block high (subst (λ (b : _). IsInside block (half high b)) same in_half) (subst (λ (b : _). HasFreesIn mid.pool block (half high b)) same ih)) place land there
