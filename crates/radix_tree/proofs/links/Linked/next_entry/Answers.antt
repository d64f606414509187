use Rattle.std.proofs.Common.{◌≡◌, ◌++◌, List, sym, ◌∙◌, ap, arith}
use Rattle.radix_tree.specs.declared.Entry.{Entry}
use Rattle.radix_tree.specs.Preorder.{to_come}
use Rattle.radix_tree.proofs.Walking.{pending_none, top_live, room_for_two, pending_two, to_come_two, weight_two, entry_some, entry_none}
use Rattle.radix_tree.proofs.links.Linked.next_entry.Goals as goal

pub walk-smaller-in_default-link : goal.walk-smaller-in_default-link
walk-smaller-in_default-link g c = (pending_none c.args.self.now c.walk.pending.items c.pop.new.self.items c.in-Some.link c.in-Some.ensures.items c.in_default-link.is c.walk.invariant.pending).2

pub walk-preserved-in_default-link : goal.walk-preserved-in_default-link
walk-preserved-in_default-link g c =
    let r = pending_none c.args.self.now c.walk.pending.items c.pop.new.self.items c.in-Some.link c.in-Some.ensures.items c.in_default-link.is c.walk.invariant.pending in
    record { pending = r.0; same = sym r.1 ∙ c.walk.invariant.same }

pub visit-node-requires : goal.visit-node-requires
visit-node-requires g c = top_live c.args.self.now c.walk.pending.items c.pop.new.self.items c.in-Some.link c.in-Some-link.id c.in-Some.ensures.items c.in-Some-link.is c.walk.invariant.pending

pub push-requires : goal.push-requires
push-requires g c =
    let room = room_for_two c.args.self.now c.walk.pending.items c.pop.new.self.items c.in-Some.link c.in-Some-link.id c.visit-node.result.now c.in-Some.ensures.items c.in-Some-link.is c.visit-node.ensures.node c.walk.invariant.pending in
    (omega arith, omega (arith, room))

pub push-requires-in-Some : goal.push-requires-in-Some
push-requires-in-Some g c =
    let room = room_for_two c.args.self.now c.walk.pending.items c.pop.new.self.items c.in-Some.link c.in-Some-link.id c.visit-node.result.now c.in-Some.ensures.items c.in-Some-link.is c.visit-node.ensures.node c.walk.invariant.pending in
    (omega arith, omega (arith, room, c.push.ensures.len))

pub returns-then-node-gt0-clause-kept : goal.returns-then-node-gt0-clause-kept
returns-then-node-gt0-clause-kept g c =
    pending_two c.args.self.now c.walk.pending.items c.pop.new.self.items c.in-Some.link c.in-Some-link.id c.visit-node.result.now c.in-Some.ensures.items c.in-Some-link.is c.visit-node.ensures.node c.walk.invariant.pending
    c.push.new.self.items c.push-in-Some.new.self.items c.push.ensures.items c.push-in-Some.ensures.items

pub returns-then-node-gt0-clause-first : goal.returns-then-node-gt0-clause-first
returns-then-node-gt0-clause-first g c =
    let t = c.args.self.now in
    let n = c.visit-node.result.now in
    let two = to_come_two t c.walk.pending.items c.pop.new.self.items c.in-Some.link c.in-Some-link.id n c.in-Some.ensures.items c.in-Some-link.is c.visit-node.ensures.node c.walk.invariant.pending
    c.push.new.self.items c.push-in-Some.new.self.items c.push.ensures.items c.push-in-Some.ensures.items in
    sym c.walk.invariant.same ∙ two ∙ ap (λ (xs : List Entry). xs ++ to_come t.pool c.push-in-Some.new.self.items) (entry_some n.count n.block c.if-node-gt0.true)

pub walk-smaller : goal.walk-smaller
walk-smaller g c =
    weight_two c.args.self.now c.walk.pending.items c.pop.new.self.items c.in-Some.link c.in-Some-link.id c.visit-node.result.now c.in-Some.ensures.items c.in-Some-link.is c.visit-node.ensures.node c.walk.invariant.pending
    c.push.new.self.items c.push-in-Some.new.self.items c.push.ensures.items c.push-in-Some.ensures.items

pub walk-preserved : goal.walk-preserved
walk-preserved g c =
    let t = c.args.self.now in
    let n = c.visit-node.result.now in
    let two = to_come_two t c.walk.pending.items c.pop.new.self.items c.in-Some.link c.in-Some-link.id n c.in-Some.ensures.items c.in-Some-link.is c.visit-node.ensures.node c.walk.invariant.pending
    c.push.new.self.items c.push-in-Some.new.self.items c.push.ensures.items c.push-in-Some.ensures.items in
    let none : n.count ≡ 0 = omega (arith, c.if-node-gt0.false) in
    record {
      pending = pending_two t c.walk.pending.items c.pop.new.self.items c.in-Some.link c.in-Some-link.id n c.in-Some.ensures.items c.in-Some-link.is c.visit-node.ensures.node c.walk.invariant.pending
          c.push.new.self.items c.push-in-Some.new.self.items c.push.ensures.items c.push-in-Some.ensures.items;
      same = sym (ap (λ (xs : List Entry). xs ++ to_come t.pool c.push-in-Some.new.self.items) (entry_none n.count n.block none)) ∙ sym two ∙ c.walk.invariant.same;
    }
