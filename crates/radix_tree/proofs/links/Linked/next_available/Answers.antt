use Rattle.std.proofs.Common.{false, IsTrue, Option, subst}
use Rattle.block_space.specs.Listed.{counting_of}
use Rattle.radix_tree.specs.Shape.{IsLink}
use Rattle.radix_tree.specs.Listed.{blocks_of}
use Rattle.radix_tree.proofs.Lands.{land_free}
use Rattle.radix_tree.proofs.Availing.{available_agree, whole_available}
use Rattle.radix_tree.proofs.Strictly.{strict_agree}
use Rattle.radix_tree.proofs.links.Linked.next_available.Goals as goal

pub returns-in_default : goal.returns-in_default
returns-in_default g c =
    let t = c.args.self.now in
    let within = c.args.within.now in
    let link = subst (λ (x : Option _). IsLink t.pool x within) c.in_default.is c.link_inside-at.ensures.link in
    whole_available within (counting_of (blocks_of t.pool) within c.args.strict) c.args.from c.unless_before.result c.requires.lawful (land_free t c.requires.sound.tree within c.args.strict c.requires.family link) c.unless_before.ensures.some c.unless_before.ensures.none

pub returns : goal.returns
returns g c =
    let t = c.args.self.now in
    let within = c.args.within.now in
    let link = subst (λ (x : Option _). IsLink t.pool x within) c.in-Some.is c.link_inside-at.ensures.link in
    available_agree (counting_of (blocks_of t.pool) within false) (counting_of (blocks_of t.pool) within c.args.strict) within c.args.from
    (λ a h. strict_agree t c.requires.sound within c.requires.lawful c.requires.family c.args.strict c.in-Some.id c.visit-node.result.now c.visit-node.ensures.node link (λ k. (let f : IsTrue false = c.if-is_left_out.ensures.1 k in cc)) a)
    c.available_below.result c.available_below.ensures
