use Rattle.std.proofs.Common.{false, IsTrue, Option, sym, subst}
use Rattle.block_space.specs.Listed.{counting_of}
use Rattle.radix_tree.specs.Shape.{IsLink}
use Rattle.radix_tree.specs.Listed.{blocks_of}
use Rattle.radix_tree.proofs.Lands.{land_free}
use Rattle.radix_tree.proofs.Fitting.{fit_agree}
use Rattle.radix_tree.proofs.Strictly.{strict_agree}
use Rattle.radix_tree.proofs.links.Linked.first_fit.Goals as goal

pub returns-in_default-clause-first : goal.returns-in_default-clause-first
returns-in_default-clause-first g c =
    let t = c.args.self.now in
    let within = c.args.within.now in
    let link = subst (λ (x : Option _). IsLink t.pool x within) c.in_default.is c.link_inside-at.ensures.link in
    fit_agree _ (counting_of (blocks_of t.pool) within c.args.strict) within c.args.len c.args.from (λ a h. sym (land_free t c.requires.sound.tree within c.args.strict c.requires.family link a h)) c.place_in.result c.place_in.ensures

pub returns-clause-first : goal.returns-clause-first
returns-clause-first g c =
    let t = c.args.self.now in
    let within = c.args.within.now in
    let link = subst (λ (x : Option _). IsLink t.pool x within) c.in-Some.is c.link_inside-at.ensures.link in
    fit_agree (counting_of (blocks_of t.pool) within false) (counting_of (blocks_of t.pool) within c.args.strict) within c.args.len c.args.from
    (λ a h. strict_agree t c.requires.sound within c.requires.lawful c.requires.family c.args.strict c.in-Some.id c.visit-node.result.now c.visit-node.ensures.node link (λ k. (let f : IsTrue false = c.if-is_left_out.ensures.1 k in cc)) a)
    c.fit_below.result c.fit_below.ensures.first
