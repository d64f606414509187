use Rattle.std.proofs.Common.{◌≡◌, ℕ, ◌+◌, ◌<◌, true, false, refl, sym, subst, inl, inr, arith}
use Rattle.std.proofs.lemmas.Bool.{cases_lt}
use Rattle.block_list.proofs.Around.{IsCountedTo, counted_first, counted_more, counted_last}
use Rattle.block_list.proofs.search.count_around.Goals as goal

pub widen-init : goal.widen-init
widen-init c = counted_first c.args.blocks.now c.args.block c.bounds.ensures

pub widen-preserved : goal.widen-preserved
widen-preserved c =
    subst (λ (n : ℕ). IsCountedTo c.args.blocks.now c.args.block c.in-Some.wider (c.widen.count + n)) (sym c.min-count.ensures) (counted_more c.args.blocks.now c.args.block c.widen.wide c.in-Some.wider c.widen.count c.times_in.result c.bounds.ensures c.widen.invariant (c.in-Some.ensures.cause.0 refl) c.in-Some.ensures.some c.times_in.ensures)

pub returns-clause-counted : goal.returns-clause-counted
returns-clause-counted c =
    let stop : c.widen.wide.len ≡ 0 = elim (cases_lt 0 c.widen.wide.len) [
      | inl some ↦ (let wrong : false ≡ true = c.in_default.ensures.cause.1 some in cc)
      | inr none ↦ omega arith
    ] in
    counted_last c.args.blocks.now c.args.block c.widen.wide c.widen.count c.widen.invariant stop

pub returns-clause-bound : goal.returns-clause-bound
returns-clause-bound c = let few = c.widen.invariant.few in omega arith
