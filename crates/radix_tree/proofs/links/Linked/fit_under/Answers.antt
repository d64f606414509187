use Rattle.std.proofs.Common.{◌<◌, true, false, IsTrue, Option, refl, sym, ◌∙◌, ap, subst, arith}
use Rattle.block_space.specs.Listed.{counting_of}
use Rattle.radix_tree.specs.declared.Node.{Node}
use Rattle.radix_tree.specs.Shape.{HasRoom, IsLink}
use Rattle.radix_tree.specs.Listed.{blocks_of}
use Rattle.radix_tree.proofs.Order.{one_node}
use Rattle.radix_tree.proofs.Fitting.{fit_agree, fit_low, fit_high, pair_visits}
use Rattle.radix_tree.proofs.Strictly.{not_itself, leaf_free, under_none, under_link}
use Rattle.radix_tree.proofs.links.Linked.fit_under.Goals as goal

pub returns-then-is_leaf-clause-first : goal.returns-then-is_leaf-clause-first
returns-then-is_leaf-clause-first g c =
    let t = c.args.self.now in
    let n = c.visit-node.result.now in
    let e = c.visit-node.ensures.node in
    let same = ap (λ (x : Node). x.block) (one_node t.pool c.args.id c.args.id n c.requires.own.0 refl e c.requires.own.1) ∙ c.requires.own.2 in
    let leaf = c.is_leaf.ensures.0 c.if-is_leaf.true in
    fit_agree _ (counting_of (blocks_of t.pool) c.args.within true) c.args.within c.args.len c.args.from
    (λ a h. sym (leaf_free t c.requires.sound c.args.within c.requires.lawful c.requires.family c.args.id n e same leaf.0 leaf.1 a)) c.place_in.result c.place_in.ensures

pub returns-then-len-clause-first : goal.returns-then-len-clause-first
returns-then-len-clause-first g c =
    let t = c.args.self.now in
    let n = c.visit-node.result.now in
    let e = c.visit-node.ensures.node in
    let same = ap (λ (x : Node). x.block) (one_node t.pool c.args.id c.args.id n c.requires.own.0 refl e c.requires.own.1) ∙ c.requires.own.2 in
    under_none t c.requires.sound c.args.within c.requires.lawful c.requires.family c.args.id n e same (λ k. (let f : IsTrue false = c.if-is_leaf.ensures.1 k in cc)) c.args.len c.args.from (sym c.len.ensures.len ∙ c.if-len.true)

pub fit_below-requires-clause-link : goal.fit_below-requires-clause-link
fit_below-requires-clause-link g c =
    let t = c.args.self.now in
    let n = c.visit-node.result.now in
    let e = c.visit-node.ensures.node in
    let same = ap (λ (x : Node). x.block) (one_node t.pool c.args.id c.args.id n c.requires.own.0 refl e c.requires.own.1) ∙ c.requires.own.2 in
    let room : HasRoom c.args.within = omega (arith, c.len.ensures.len, c.if-len.false, c.requires.long, c.requires.short) in
    subst (λ (x : Option _). IsLink t.pool x c.half_of.result) (sym c.sides-sides.ensures.low)
    (subst (IsLink t.pool n.low) (sym c.half_of.ensures) (under_link t c.requires.sound c.args.within c.requires.lawful c.requires.family c.args.id n e same false room))

pub fit_below-requires-2-clause-link : goal.fit_below-requires-2-clause-link
fit_below-requires-2-clause-link g c =
    let t = c.args.self.now in
    let n = c.visit-node.result.now in
    let e = c.visit-node.ensures.node in
    let same = ap (λ (x : Node). x.block) (one_node t.pool c.args.id c.args.id n c.requires.own.0 refl e c.requires.own.1) ∙ c.requires.own.2 in
    let room : HasRoom c.args.within = omega (arith, c.len.ensures.len, c.if-len.false, c.requires.long, c.requires.short) in
    subst (λ (x : Option _). IsLink t.pool x c.half_of-2.result) (sym c.sides-sides.ensures.high)
    (subst (IsLink t.pool n.high) (sym c.half_of-2.ensures) (under_link t c.requires.sound c.args.within c.requires.lawful c.requires.family c.args.id n e same true room))

pub returns-in-Some-clause-first : goal.returns-in-Some-clause-first
returns-in-Some-clause-first g c =
    let t = c.args.self.now in
    let within = c.args.within in
    let less : within.len < c.args.len = omega (arith, c.len.ensures.len, c.if-len.false, c.requires.long) in
    let room : HasRoom within = omega (arith, less, c.requires.short) in
    fit_low t c.requires.sound within c.requires.lawful c.requires.family room true (λ id m e some k. not_itself within m.block k) c.args.len c.args.from less c.half_of.result c.half_of.ensures c.fit_below.result c.in-Some.block c.in-Some.is c.fit_below.ensures.first

pub returns-clause-first : goal.returns-clause-first
returns-clause-first g c =
    let t = c.args.self.now in
    let within = c.args.within in
    let less : within.len < c.args.len = omega (arith, c.len.ensures.len, c.if-len.false, c.requires.long) in
    let room : HasRoom within = omega (arith, less, c.requires.short) in
    fit_high t c.requires.sound within c.requires.lawful c.requires.family room true (λ id m e some k. not_itself within m.block k) c.args.len c.args.from less c.half_of.result c.half_of.ensures c.fit_below.result
    c.half_of-2.result c.half_of-2.ensures c.fit_below-2.result c.in_default.is c.fit_below.ensures.first c.fit_below-2.ensures.first

pub returns-clause-cost : goal.returns-clause-cost
returns-clause-cost g c =
    let within = c.args.within in
    let less : within.len < c.args.len = omega (arith, c.len.ensures.len, c.if-len.false, c.requires.long) in
    let room : HasRoom within = omega (arith, less, c.requires.short) in
    let pair = pair_visits within room c.args.from c.half_of.result c.half_of-2.result c.fit_below.result c.fit_below-2.result c.visit-node.new.steps c.fit_below.new.steps c.fit_below-2.new.steps c.half_of.ensures c.half_of-2.ensures c.in_default.is c.fit_below.ensures.quick c.fit_below-2.ensures.quick in
    omega (arith, pair, c.visit-node.ensures.cost)
