use Rattle.std.proofs.Common.{[], ◌∷◌, ◌++◌, sym, ◌∙◌, ap, arith, append_assoc}
use Rattle.std.proofs.lemmas.List.{append-nil}
use Rattle.inet_num.specs.Net.{Address}
use Rattle.span_set.proofs.Greedy.{found_none, found_all, found_step}
use Rattle.span_set.proofs.blocks.push_blocks.Goals as goal

pub walk-init : goal.walk-init
walk-init c = record {
  low = omega arith;
  high = c.requires.order;
  found = ([], found_none c.args.family c.args.first c.args.last, sym (append-nil _));
}

pub returns-then-last-end : goal.returns-then-last-end
returns-then-last-end c =
    let f = c.walk.invariant.found in
    let end_is = c.value-end.ensures.value ∙ ap (λ (a : Address). a.value) c.last.ensures in
    let step = found_step c.args.family c.args.first c.args.last c.walk.at f.0 c.address.result c.widest-block.result c.value-end.result c.address.ensures c.widest-block.ensures.at c.widest-block.ensures.fits c.widest-block.ensures.least end_is f.1 c.walk.invariant.low c.walk.invariant.high in
    record { ok = (f.0 ++ c.widest-block.result ∷ [], found_all _ _ _ _ _ step.1 (omega arith), c.in_ok-push.ensures.items ∙ ap (λ xs. xs ++ c.widest-block.result ∷ []) f.2 ∙ append_assoc c.args.out.now.items f.0 (c.widest-block.result ∷ [])) }

pub walk-preserved : goal.walk-preserved
walk-preserved c =
    let f = c.walk.invariant.found in
    let end_is = c.value-end.ensures.value ∙ ap (λ (a : Address). a.value) c.last.ensures in
    let step = found_step c.args.family c.args.first c.args.last c.walk.at f.0 c.address.result c.widest-block.result c.value-end.result c.address.ensures c.widest-block.ensures.at c.widest-block.ensures.fits c.widest-block.ensures.least end_is f.1 c.walk.invariant.low c.walk.invariant.high in
    let low = c.walk.invariant.low in
    record {
      low = omega (arith, step.0);
      high = omega arith;
      found = (f.0 ++ c.widest-block.result ∷ [], step.1, c.in_ok-push.ensures.items ∙ ap (λ xs. xs ++ c.widest-block.result ∷ []) f.2 ∙ append_assoc c.args.out.now.items f.0 (c.widest-block.result ∷ []));
    }

pub walk-smaller : goal.walk-smaller
walk-smaller c =
    let f = c.walk.invariant.found in
    let end_is = c.value-end.ensures.value ∙ ap (λ (a : Address). a.value) c.last.ensures in
    let step = found_step c.args.family c.args.first c.args.last c.walk.at f.0 c.address.result c.widest-block.result c.value-end.result c.address.ensures c.widest-block.ensures.at c.widest-block.ensures.fits c.widest-block.ensures.least end_is f.1 c.walk.invariant.low c.walk.invariant.high in
    omega (arith, step.0)
