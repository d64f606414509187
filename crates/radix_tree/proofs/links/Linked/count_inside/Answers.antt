use Rattle.std.proofs.Common.{◌≡◌, ◌-◌, ◌^◌, ◌<◌, false, Bool, IsTrue, Option, sym, ◌∙◌, subst, arith, length}
use Rattle.block_space.specs.Listed.{counting_of}
use Rattle.radix_tree.specs.Shape.{IsLink}
use Rattle.radix_tree.specs.Listed.{blocks_of}
use Rattle.radix_tree.proofs.Counted.{counted_none, counted_strict, counted_other, fewer}
use Rattle.radix_tree.proofs.Totals.{total_is}
use Rattle.radix_tree.proofs.links.Linked.count_inside.Goals as goal

pub returns-in_default : goal.returns-in_default
returns-in_default g c =
    let t = c.args.self.now in
    sym (counted_none t c.requires.sound c.args.within.now c.args.strict c.requires.family (subst (λ (x : Option _). IsLink t.pool x c.args.within.now) c.in_default.is c.link_inside-at.ensures.link))

pub overflow_sub-result : goal.overflow_sub-result
overflow_sub-result g c =
    let t = c.args.self.now in
    let within = c.args.within.now in
    let n = c.visit-node.result.now in
    let e = c.visit-node.ensures.node in
    let left = c.is_left_out.ensures.0 c.if-is_left_out.true in
    let link = subst (λ (x : Option _). IsLink t.pool x within) c.in-Some.is c.link_inside-at.ensures.link in
    let few : length (counting_of (blocks_of t.pool) within false) < 2 ^ 32 = omega (arith, fewer (blocks_of t.pool) within false, c.requires.few) in
    let all = total_is t c.requires.sound c.requires.frees c.in-Some.id n e within c.requires.family link few in
    omega (arith, all, counted_strict t c.requires.sound within c.requires.family c.in-Some.id n e link c.requires.lawful left.1)

pub returns-then-is_left_out : goal.returns-then-is_left_out
returns-then-is_left_out g c =
    let t = c.args.self.now in
    let within = c.args.within.now in
    let n = c.visit-node.result.now in
    let e = c.visit-node.ensures.node in
    let left = c.is_left_out.ensures.0 c.if-is_left_out.true in
    let link = subst (λ (x : Option _). IsLink t.pool x within) c.in-Some.is c.link_inside-at.ensures.link in
    let few : length (counting_of (blocks_of t.pool) within false) < 2 ^ 32 = omega (arith, fewer (blocks_of t.pool) within false, c.requires.few) in
    let all = total_is t c.requires.sound c.requires.frees c.in-Some.id n e within c.requires.family link few in
    subst (λ (s : Bool). n.total - n.count ≡ length (counting_of (blocks_of t.pool) within s)) (sym left.0)
    (omega (arith, all, counted_strict t c.requires.sound within c.requires.family c.in-Some.id n e link c.requires.lawful left.1))

pub returns : goal.returns
returns g c =
    let t = c.args.self.now in
    let within = c.args.within.now in
    let n = c.visit-node.result.now in
    let e = c.visit-node.ensures.node in
    let link = subst (λ (x : Option _). IsLink t.pool x within) c.in-Some.is c.link_inside-at.ensures.link in
    let few : length (counting_of (blocks_of t.pool) within false) < 2 ^ 32 = omega (arith, fewer (blocks_of t.pool) within false, c.requires.few) in
    total_is t c.requires.sound c.requires.frees c.in-Some.id n e within c.requires.family link few
    ∙ counted_other t c.requires.sound within c.requires.family c.in-Some.id n e link c.requires.lawful c.args.strict (λ k. (let f : IsTrue false = c.if-is_left_out.ensures.1 k in cc))
