use Rattle.std.proofs.Common.{◌≡◌, true, false, IsTrue, None, Option, refl, sym, ◌∙◌, ap, subst}
use Rattle.radix_tree.specs.declared.Node.{Node}
use Rattle.block_space.specs.Listed.{counting_of}
use Rattle.radix_tree.specs.Shape.{HasRoom, IsLink}
use Rattle.radix_tree.specs.Listed.{blocks_of}
use Rattle.radix_tree.proofs.Order.{one_node}
use Rattle.radix_tree.proofs.Strictly.{not_itself, leaf_free, under_taken, under_link}
use Rattle.radix_tree.proofs.Availing.{whole_available, avail_low, avail_high, parent_room}
use Rattle.radix_tree.proofs.links.Linked.available_under.Goals as goal

pub returns-then-is_leaf : goal.returns-then-is_leaf
returns-then-is_leaf g c =
    let t = c.args.self.now in
    let n = c.visit-node.result.now in
    let e = c.visit-node.ensures.node in
    let same = ap (λ (x : Node). x.block) (one_node t.pool c.args.id c.args.id n c.requires.own.0 refl e c.requires.own.1) ∙ c.requires.own.2 in
    let leaf = c.is_leaf.ensures.0 c.if-is_leaf.true in
    whole_available c.args.within (counting_of (blocks_of t.pool) c.args.within true) c.args.from c.unless_before.result c.requires.lawful
    (λ a h. leaf_free t c.requires.sound c.args.within c.requires.lawful c.requires.family c.args.id n e same leaf.0 leaf.1 a) c.unless_before.ensures.some c.unless_before.ensures.none

pub half_of-requires : goal.half_of-requires
half_of-requires g c =
    let t = c.args.self.now in
    let n = c.visit-node.result.now in
    let e = c.visit-node.ensures.node in
    let same = ap (λ (x : Node). x.block) (one_node t.pool c.args.id c.args.id n c.requires.own.0 refl e c.requires.own.1) ∙ c.requires.own.2 in
    subst HasRoom same (parent_room t c.requires.sound c.args.id n e (λ k. (let f : IsTrue false = c.if-is_leaf.ensures.1 k in cc)))

pub available_below-requires-clause-link : goal.available_below-requires-clause-link
available_below-requires-clause-link g c =
    let t = c.args.self.now in
    let n = c.visit-node.result.now in
    let e = c.visit-node.ensures.node in
    let same = ap (λ (x : Node). x.block) (one_node t.pool c.args.id c.args.id n c.requires.own.0 refl e c.requires.own.1) ∙ c.requires.own.2 in
    let room = subst HasRoom same (parent_room t c.requires.sound c.args.id n e (λ k. (let f : IsTrue false = c.if-is_leaf.ensures.1 k in cc))) in
    subst (λ (x : Option _). IsLink t.pool x c.half_of.result) (sym c.sides-sides.ensures.low)
    (subst (IsLink t.pool n.low) (sym c.half_of.ensures) (under_link t c.requires.sound c.args.within c.requires.lawful c.requires.family c.args.id n e same false room))

pub available_below-requires-2-clause-link : goal.available_below-requires-2-clause-link
available_below-requires-2-clause-link g c =
    let t = c.args.self.now in
    let n = c.visit-node.result.now in
    let e = c.visit-node.ensures.node in
    let same = ap (λ (x : Node). x.block) (one_node t.pool c.args.id c.args.id n c.requires.own.0 refl e c.requires.own.1) ∙ c.requires.own.2 in
    let room = subst HasRoom same (parent_room t c.requires.sound c.args.id n e (λ k. (let f : IsTrue false = c.if-is_leaf.ensures.1 k in cc))) in
    subst (λ (x : Option _). IsLink t.pool x c.half_of-2.result) (sym c.sides-sides.ensures.high)
    (subst (IsLink t.pool n.high) (sym c.half_of-2.ensures) (under_link t c.requires.sound c.args.within c.requires.lawful c.requires.family c.args.id n e same true room))

pub returns-in-Some : goal.returns-in-Some
returns-in-Some g c =
    let t = c.args.self.now in
    let n = c.visit-node.result.now in
    let e = c.visit-node.ensures.node in
    let within = c.args.within in
    let same = ap (λ (x : Node). x.block) (one_node t.pool c.args.id c.args.id n c.requires.own.0 refl e c.requires.own.1) ∙ c.requires.own.2 in
    let full : (n.low ≡ None) × (n.high ≡ None) → ⊥ = λ k. (let f : IsTrue false = c.if-is_leaf.ensures.1 k in cc) in
    let room = subst HasRoom same (parent_room t c.requires.sound c.args.id n e full) in
    avail_low t c.requires.sound within c.requires.lawful c.requires.family room true (λ id m e some k. not_itself within m.block k) (under_taken t c.requires.sound within c.requires.lawful c.requires.family c.args.id n e same full) c.args.from c.half_of.result c.half_of.ensures c.available_below.result
    c.in-Some.block c.in-Some.is c.available_below.ensures

pub returns : goal.returns
returns g c =
    let t = c.args.self.now in
    let n = c.visit-node.result.now in
    let e = c.visit-node.ensures.node in
    let within = c.args.within in
    let same = ap (λ (x : Node). x.block) (one_node t.pool c.args.id c.args.id n c.requires.own.0 refl e c.requires.own.1) ∙ c.requires.own.2 in
    let full : (n.low ≡ None) × (n.high ≡ None) → ⊥ = λ k. (let f : IsTrue false = c.if-is_leaf.ensures.1 k in cc) in
    let room = subst HasRoom same (parent_room t c.requires.sound c.args.id n e full) in
    avail_high t c.requires.sound within c.requires.lawful c.requires.family room true (λ id m e some k. not_itself within m.block k) (under_taken t c.requires.sound within c.requires.lawful c.requires.family c.args.id n e same full) c.args.from c.half_of.result c.half_of.ensures c.available_below.result
    c.half_of-2.result c.half_of-2.ensures c.available_below-2.result c.in_default.is c.available_below.ensures c.available_below-2.ensures
