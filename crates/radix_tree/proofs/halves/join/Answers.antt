use Rattle.std.proofs.Common.{refl, sym, ap, subst, IsTrue, true, false}
use Rattle.inet_num.specs.Net.{Cidr, IsBlock, IsInside}
use Rattle.radix_tree.specs.Shape.{half, HasRoom}
use Rattle.radix_tree.proofs.Joints.{half_lawful, in_other, not_around, joint_is, next_lawful, no_room}
use Rattle.radix_tree.proofs.halves.join.Goals as goal

pub returns-then-not-contains : goal.returns-then-not-contains
returns-then-not-contains c =
    let around = c.loop-low.around in
    let v = c.loop-low.invariant in
    let room : HasRoom around = c.in-Some.ensures.cause.0 refl in
    let low_is = ap (λ (p : Cidr × Cidr). p.0) c.in-Some.ensures.some in
    let first : IsInside c.args.a.now (half false around) = subst (IsInside c.args.a.now) low_is (c.contains.ensures.0 c.if-contains.true) in
    joint_is c.args.land c.args.a.now c.args.b.now around false v.lawful c.requires.lawful_too v.inside room v.second c.requires.apart first
    (λ i. (let f : IsTrue false = c.if-not-contains.ensures.1 (subst (IsInside c.args.b.now) (sym low_is) i) in cc))

pub loop-low-preserved-then-contains : goal.loop-low-preserved-then-contains
loop-low-preserved-then-contains c =
    let around = c.loop-low.around in
    let v = c.loop-low.invariant in
    let room : HasRoom around = c.in-Some.ensures.cause.0 refl in
    let low_is = ap (λ (p : Cidr × Cidr). p.0) c.in-Some.ensures.some in
    record {
      lawful = subst IsBlock (sym low_is) (half_lawful false around v.lawful room);
      inside = subst (λ (x : Cidr). IsInside x c.args.land) (sym low_is) (next_lawful false c.args.land around v.lawful room v.inside);
      first = c.contains.ensures.0 c.if-contains.true;
      second = c.if-not-contains.ensures.0 refl;
    }

pub returns-then-not-contains-2 : goal.returns-then-not-contains-2
returns-then-not-contains-2 c =
    let around = c.loop-low.around in
    let v = c.loop-low.invariant in
    let room : HasRoom around = c.in-Some.ensures.cause.0 refl in
    let low_is = ap (λ (p : Cidr × Cidr). p.0) c.in-Some.ensures.some in
    let high_is = ap (λ (p : Cidr × Cidr). p.1) c.in-Some.ensures.some in
    let first : IsInside c.args.a.now (half true around) = in_other around c.args.a.now false v.lawful c.requires.lawful v.first (not_around c.args.a.now c.args.b.now around c.requires.apart_too v.second)
    (λ i. (let f : IsTrue false = c.if-contains.ensures.1 (subst (IsInside c.args.a.now) (sym low_is) i) in cc)) in
    joint_is c.args.land c.args.a.now c.args.b.now around true v.lawful c.requires.lawful_too v.inside room v.second c.requires.apart first
    (λ i. (let f : IsTrue false = c.if-not-contains-2.ensures.1 (subst (IsInside c.args.b.now) (sym high_is) i) in cc))

pub loop-low-preserved : goal.loop-low-preserved
loop-low-preserved c =
    let around = c.loop-low.around in
    let v = c.loop-low.invariant in
    let room : HasRoom around = c.in-Some.ensures.cause.0 refl in
    let low_is = ap (λ (p : Cidr × Cidr). p.0) c.in-Some.ensures.some in
    let high_is = ap (λ (p : Cidr × Cidr). p.1) c.in-Some.ensures.some in
    let first : IsInside c.args.a.now (half true around) = in_other around c.args.a.now false v.lawful c.requires.lawful v.first (not_around c.args.a.now c.args.b.now around c.requires.apart_too v.second)
    (λ i. (let f : IsTrue false = c.if-contains.ensures.1 (subst (IsInside c.args.a.now) (sym low_is) i) in cc)) in
    record {
      lawful = subst IsBlock (sym high_is) (half_lawful true around v.lawful room);
      inside = subst (λ (x : Cidr). IsInside x c.args.land) (sym high_is) (next_lawful true c.args.land around v.lawful room v.inside);
      first = subst (IsInside c.args.a.now) (sym high_is) first;
      second = c.if-not-contains-2.ensures.0 refl;
    }

pub unreachable-requires : goal.unreachable-requires
unreachable-requires c =
    let v = c.loop-low.invariant in
    let room = no_room c.args.a.now c.args.b.now c.loop-low.around c.requires.lawful v.lawful v.first v.second c.requires.apart_too in
    let f : IsTrue false = c.in_default.ensures.cause.1 room in cc
