use Rattle.std.proofs.Common.{◌≢◌, false, IsTrue, None, arith}
use Rattle.inet_num.specs.Net.{IsInside}
use Rattle.radix_tree.specs.declared.links.Place.TheVariants.{Under}
use Rattle.radix_tree.specs.Shape.{half}
use Rattle.radix_tree.proofs.Sides.{longer, room_above}
use Rattle.radix_tree.proofs.Recount.{count_few, inserted_more}
use Rattle.radix_tree.proofs.Insert.{placed_leaf, inserted_leaf, inserted_over, open_link, inserted_join}
use Rattle.radix_tree.proofs.links.Linked.insert.Goals as goal

pub returns-in_default : goal.returns-in_default
returns-in_default g c =
    let placed = placed_leaf c.args.self.now c.put_at.new.self c.find-found.result.place c.put_at.result c.leaf_of.result c.args.block c.leaf_of.ensures (c.put_at.ensures.put, c.put_at.ensures.listed, c.put_at.ensures.tally) in
    inserted_leaf c.args.self.now c.put_at.new.self c.args.block c.find-found.result c.requires.sound c.requires.lawful c.requires.family c.find-found.ensures.found c.in_default.is
    c.put_at.result placed.0 placed.1 placed.2 c.put_at.ensures.spare

pub overflow_add-count : goal.overflow_add-count
overflow_add-count g c =
    let few = count_few c.args.self.now.pool c.in-Some.id c.visit-node.result.now c.visit-node.ensures.node in
    omega (arith, c.requires.few)

pub returns-then-is : goal.returns-then-is
returns-then-is g c = inserted_more c.args.self.now c.recount.new.self c.args.block c.in-Some.id c.visit-node.result.now c.requires.sound c.visit-node.ensures.node (c.is.ensures.0 c.if-is.true) c.recount.ensures.recounts c.recount.ensures.spare

pub is_in_high_half-high-requires-clause-lawful : goal.is_in_high_half-high-requires-clause-lawful
is_in_high_half-high-requires-clause-lawful g c = (c.requires.sound.tree.each c.in-Some.id c.visit-node.result.now c.visit-node.ensures.node).lawful

pub is_in_high_half-high-requires-clause-inside : goal.is_in_high_half-high-requires-clause-inside
is_in_high_half-high-requires-clause-inside g c = record { inside = c.contains.ensures.0 c.if-contains.true; other = λ same. (let f : IsTrue false = c.if-is.ensures.1 same in cc) }

pub returns-then-contains : goal.returns-then-contains
returns-then-contains g c =
    let m = c.visit-node.result.now in
    let own = (c.requires.sound.tree.each c.in-Some.id m c.visit-node.ensures.node).lawful in
    let inside : IsInside m.block c.args.block = c.contains.ensures.0 c.if-contains.true in
    let other : m.block ≢ c.args.block = λ same. (let f : IsTrue false = c.if-is.ensures.1 same in cc) in
    let room = room_above m.block c.args.block own inside (longer m.block c.args.block own c.requires.lawful inside other) in
    let below = c.is_in_high_half-high.ensures in
    inserted_over c.args.self.now c.put_at-then-contains.new.self c.args.block c.find-found.result c.requires.sound c.requires.lawful c.requires.family c.find-found.ensures.found c.in-Some.id m c.over.result c.is_in_high_half-high.result
    c.in-Some.is c.visit-node.ensures.node other room below c.over.ensures c.put_at-then-contains.result c.put_at-then-contains.ensures.put c.put_at-then-contains.ensures.listed c.put_at-then-contains.ensures.tally c.put_at-then-contains.ensures.spare

pub put_at-requires-then-contains-clause-place : goal.put_at-requires-then-contains-clause-place
put_at-requires-then-contains-clause-place g c = (c.find-found.result.at, c.find-found.result.land, c.find-found.ensures.found.here)

pub put_at-above-requires-clause-place : goal.put_at-above-requires-clause-place
put_at-above-requires-clause-place g c = (c.find-found.result.at, c.find-found.result.land, c.find-found.ensures.found.here)

pub put_at-requires-2-clause-place : goal.put_at-requires-2-clause-place
put_at-requires-2-clause-place g c = (
  None,
  half c.join-joint.result.high c.join-joint.result.block,
  open_link c.args.self.now c.put_at-above.new.self c.args.block c.find-found.result c.requires.sound c.requires.lawful c.requires.family c.find-found.ensures.found c.in-Some.id c.visit-node.result.now
      c.in-Some.is c.visit-node.ensures.node c.join-joint.result c.join-joint.ensures c.over-2.result c.over-2.ensures c.put_at-above.result 0 c.put_at-above.ensures.put,
)

pub returns : goal.returns
returns g c =
    let placed = placed_leaf c.put_at-above.new.self c.put_at-2.new.self (Under c.put_at-above.result c.join-joint.result.high) c.put_at-2.result c.leaf_of-2.result c.args.block c.leaf_of-2.ensures (c.put_at-2.ensures.put, c.put_at-2.ensures.listed, c.put_at-2.ensures.tally) in
    inserted_join c.args.self.now c.put_at-above.new.self c.args.block c.find-found.result c.requires.sound c.requires.lawful c.requires.family c.find-found.ensures.found c.in-Some.id c.visit-node.result.now
    c.in-Some.is c.visit-node.ensures.node c.join-joint.result c.join-joint.ensures c.over-2.result c.over-2.ensures c.put_at-above.result c.put_at-2.result c.put_at-above.ensures.put c.put_at-2.new.self placed.0
    c.put_at-above.ensures.listed c.put_at-above.ensures.tally c.put_at-above.ensures.spare placed.1 placed.2 c.put_at-2.ensures.spare
