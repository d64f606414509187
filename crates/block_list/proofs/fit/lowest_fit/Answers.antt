use Rattle.std.proofs.Common.{◌∙◌, ap, sym, subst, ◌+◌, take, Option}
use Rattle.inet_num.specs.Net.{Address, Cidr}
use Rattle.block_space.specs.Listed.{counting_of}
use Rattle.block_space.specs.Fit.{IsFirstFit}
use Rattle.block_list.proofs.Candidates.{IsCandidate, walk_stays, walk_moves, walk_nowhere, walk_arrives}
use Rattle.block_list.proofs.fit.lowest_fit.Goals as goal
use Rattle.block_list.proofs.fit.lowest_fit.Goals.{then-is_in_the_way+in_ok-place-2, else-is_in_the_way}

pub walk-preserved : goal.walk-preserved
walk-preserved c = elim c.if-is_in_the_way.branch [
  | then-is_in_the_way+in_ok-place-2 w ↦
      subst (λ (p : Cidr). IsCandidate c.args.within.now c.args.blocks.now (take (c.walk.block-index + 1) c.args.blocks.now) c.args.strict c.args.len c.args.from p) (sym w.place-is)
      (walk_moves c.args.within.now c.args.blocks.now c.args.strict c.is_in_the_way.result c.args.len c.args.from c.walk.place w.in_ok-place-2.place c.block-item.result c.walk.block-index w.value.result c.requires.rises c.walk.invariant c.walk-test.true c.block-item.is
      c.is_in_the_way.ensures w.if-is_in_the_way.true (w.value.ensures.value ∙ ap (λ (a : Address). a.value) w.last.ensures) w.in_ok-place-2.ensures)
  | else-is_in_the_way w ↦
      subst (λ (p : Cidr). IsCandidate c.args.within.now c.args.blocks.now (take (c.walk.block-index + 1) c.args.blocks.now) c.args.strict c.args.len c.args.from p) (sym w.place-is)
      (walk_stays c.args.within.now c.args.blocks.now c.args.strict c.is_in_the_way.result c.args.len c.args.from c.walk.place c.block-item.result c.walk.block-index c.walk.invariant c.walk-test.true c.block-item.is
      c.is_in_the_way.ensures w.if-is_in_the_way.false)
]

pub returns : goal.returns
returns c = walk_arrives c.args.within.now c.args.blocks.now c.args.strict c.args.len c.args.from c.walk.place c.walk.block-index c.walk.invariant c.walk-test.false

pub returns-in_err-place-2 : goal.returns-in_err-place-2
returns-in_err-place-2 c =
    subst (λ (r : Option Cidr). IsFirstFit c.args.within.now (counting_of c.args.blocks.now c.args.within.now c.args.strict) c.args.len c.args.from r) (sym c.from_residual-in_err-place-2.ensures)
    (walk_nowhere c.args.within.now c.args.blocks.now c.args.strict c.is_in_the_way.result c.args.len c.args.from c.walk.place c.block-item.result c.walk.block-index c.value.result c.walk.invariant c.walk-test.true c.block-item.is
    c.is_in_the_way.ensures c.if-is_in_the_way.true (c.value.ensures.value ∙ ap (λ (a : Address). a.value) c.last.ensures) c.in_err-place-2.ensures)
