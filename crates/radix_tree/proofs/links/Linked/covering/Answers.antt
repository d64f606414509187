use Rattle.std.proofs.Common.{ℕ, Bool, false, IsTrue, Option, refl, sym, ap, subst, arith}
use Rattle.inet_num.specs.Net.{Cidr, IsBlock, IsInside, IsStrictlyInside}
use Rattle.radix_tree.specs.Shape.{half, HasLink, rank}
use Rattle.radix_tree.specs.Listed.{blocks_of}
use Rattle.radix_tree.specs.Covering.{ListsCovering}
use Rattle.radix_tree.proofs.Sides.{whole_in, whole_lawful}
use Rattle.radix_tree.proofs.Joints.{half_lawful}
use Rattle.radix_tree.proofs.Descent.{rank_child, strict_room}
use Rattle.radix_tree.proofs.Covers.{IsCoveringUpTo, covering_init, covering_next, covering_last, covering_end, covering_out, half_len}
use Rattle.radix_tree.proofs.links.Linked.covering.Goals as goal

pub loop-found-init : goal.loop-found-init
loop-found-init g c = record {
  here = (refl, c.whole_of.ensures);
  inside = subst (IsInside c.args.block.now) (sym c.whole_of.ensures) (whole_in c.args.self.now.family c.args.block.now c.requires.lawful c.requires.family);
  lawful = subst IsBlock (sym c.whole_of.ensures) (whole_lawful c.args.self.now.family);
  listed = covering_init c.args.self.now c.requires.tree c.args.block.now c.whole_of.result c.new-out.result.items c.whole_of.ensures c.new-out.ensures.items;
}

pub returns-then-not-contains : goal.returns-then-not-contains
returns-then-not-contains g c = record {
  ok = covering_out c.args.self.now c.requires.tree c.args.block.now c.loop-found.found.place c.loop-found.found.land c.in-Some.id c.visit-node.result.now
      (subst (λ (x : Option ℕ). HasLink c.args.self.now c.loop-found.found.place x c.loop-found.found.land) c.in-Some.is c.loop-found.invariant.here) c.visit-node.ensures.node
      (λ i. (let f : IsTrue false = c.if-not-contains.ensures.1 i in cc)) c.loop-found.out.items c.loop-found.invariant.listed;
}

pub returns-then-is : goal.returns-then-is
returns-then-is g c = record {
  ok = subst (ListsCovering (blocks_of c.args.self.now.pool) c.args.block.now) (sym c.in_ok-push_once.ensures)
      (covering_last c.args.self.now c.requires.tree c.args.block.now c.requires.lawful c.loop-found.found.place c.loop-found.found.land c.loop-found.invariant.lawful c.in-Some.id c.visit-node.result.now
      (subst (λ (x : Option ℕ). HasLink c.args.self.now c.loop-found.found.place x c.loop-found.found.land) c.in-Some.is c.loop-found.invariant.here) c.visit-node.ensures.node
      (c.contains.ensures.0 c.if-not-contains.false) c.loop-found.out.items c.loop-found.invariant.listed (c.is.ensures.0 c.if-is.true));
}

pub is_in_high_half-right-requires-clause-lawful_around : goal.is_in_high_half-right-requires-clause-lawful_around
is_in_high_half-right-requires-clause-lawful_around g c = (c.requires.tree.each c.in-Some.id c.visit-node.result.now c.visit-node.ensures.node).lawful

pub is_in_high_half-right-requires-clause-inside : goal.is_in_high_half-right-requires-clause-inside
is_in_high_half-right-requires-clause-inside g c = record { inside = c.contains.ensures.0 c.if-not-contains.false; other = λ same. (let f : IsTrue false = c.if-is.ensures.1 (sym same) in cc) }

pub half_of-requires : goal.half_of-requires
half_of-requires g c =
    let strict : IsStrictlyInside c.args.block.now c.visit-node.result.now.block = record { inside = c.contains.ensures.0 c.if-not-contains.false; other = λ same. (let f : IsTrue false = c.if-is.ensures.1 (sym same) in cc) } in
    strict_room c.args.self.now c.requires.tree c.args.block.now c.requires.lawful c.in-Some.id c.visit-node.result.now c.visit-node.ensures.node strict

pub loop-found-smaller : goal.loop-found-smaller
loop-found-smaller g c =
    let n = c.visit-node.result.now in
    let strict : IsStrictlyInside c.args.block.now n.block = record { inside = c.contains.ensures.0 c.if-not-contains.false; other = λ same. (let f : IsTrue false = c.if-is.ensures.1 (sym same) in cc) } in
    let room = strict_room c.args.self.now c.requires.tree c.args.block.now c.requires.lawful c.in-Some.id n c.visit-node.ensures.node strict in
    let less = rank_child c.args.self.now c.requires.tree c.in-Some.id n c.is_in_high_half-right.result c.visit-node.ensures.node room in
    let at_is = ap (rank c.args.self.now.pool) c.in-Some.is in
    let to_is = ap (rank c.args.self.now.pool) c.link.ensures in
    omega arith

pub loop-found-preserved : goal.loop-found-preserved
loop-found-preserved g c =
    let t = c.args.self.now in
    let block = c.args.block.now in
    let n = c.visit-node.result.now in
    let e = c.visit-node.ensures.node in
    let inside : IsInside block n.block = c.contains.ensures.0 c.if-not-contains.false in
    let strict : IsStrictlyInside block n.block = record { inside = inside; other = λ same. (let f : IsTrue false = c.if-is.ensures.1 (sym same) in cc) } in
    let room = strict_room t c.requires.tree block c.requires.lawful c.in-Some.id n e strict in
    let side : Bool = c.is_in_high_half-right.result in
    let half_is = c.half_of.ensures in
    let own = (c.requires.tree.each c.in-Some.id n e).lawful in
    let in_half = c.is_in_high_half-right.ensures in
    let link = subst (λ (x : Option ℕ). HasLink t c.loop-found.found.place x c.loop-found.found.land) c.in-Some.is c.loop-found.invariant.here in
    let next = covering_next t c.requires.tree block c.requires.lawful c.loop-found.found.place c.loop-found.found.land c.loop-found.invariant.lawful c.in-Some.id n link e inside c.loop-found.out.items c.loop-found.invariant.listed
    side room in_half (half_len side n.block) in
    record {
      here = (n, e, room, c.link.ensures, half_is);
      inside = subst (IsInside block) (sym half_is) in_half;
      lawful = subst IsBlock (sym half_is) (half_lawful side n.block own room);
      listed = subst (λ (x : Cidr). IsCoveringUpTo t block x c.push_once.new.out.items) (sym half_is) (subst (IsCoveringUpTo t block (half side n.block)) (sym c.in_ok-push_once.ensures) next);
    }

pub returns : goal.returns
returns g c = record { ok = covering_end c.args.self.now c.requires.tree c.args.block.now c.loop-found.found.place c.loop-found.found.land c.loop-found.found.at c.loop-found.invariant.here c.in_default.is c.loop-found.out.items c.loop-found.invariant.listed }
