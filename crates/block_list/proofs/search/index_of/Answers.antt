use Rattle.std.proofs.Common.{◌≡◌, ℕ, ◌<◌, ◌-◌, ◌∙◌, sym, ap, subst, Option, MatchOption, take, drop}
use Rattle.inet_num.specs.Net.{Address}
use Rattle.block_space.specs.Listed.{times_of}
use Rattle.block_list.proofs.Changes.{times_middle, none_found, index_found}
use Rattle.block_list.proofs.search.index_of.Goals as goal

pub returns-in_err-index-clause-cause : goal.returns-in_err-index-clause-cause
returns-in_err-index-clause-cause c =
    let from = c.beginning_in-from.result.0 in
    let to = c.beginning_in-from.result.1 in
    let same = times_middle c.args.block.now c.args.blocks.now c.beginning_in-from.result.0 c.beginning_in-from.result.1 c.value-first.result (c.value-first.ensures.value ∙ ap (λ (a : Address). a.value) c.first.ensures)
    c.beginning_in-from.ensures.order c.beginning_in-from.ensures.before c.beginning_in-from.ensures.behind in
    let none : times_of c.args.blocks.now c.args.block.now ≡ 0 = sym same ∙ none_found c.args.block.now (take (to - from) (drop from c.args.blocks.now)) (sym c.in_err-index.ensures) in
    subst (λ (r : Option ℕ). MatchOption r (times_of c.args.blocks.now c.args.block.now ≡ 0) (λ x. 0 < times_of c.args.blocks.now c.args.block.now)) (sym c.from_residual.ensures) none

pub returns-clause-found : goal.returns-clause-found
returns-clause-found c =
    let found = index_found c.args.block.now c.args.blocks.now c.beginning_in-from.result.0 c.beginning_in-from.result.1 c.in_ok-index.index c.beginning_in-from.ensures.order c.beginning_in-from.ensures.bound (sym c.in_ok-index.ensures) in
    (found.0, found.1)

pub returns-clause-cause : goal.returns-clause-cause
returns-clause-cause c = (index_found c.args.block.now c.args.blocks.now c.beginning_in-from.result.0 c.beginning_in-from.result.1 c.in_ok-index.index c.beginning_in-from.ensures.order c.beginning_in-from.ensures.bound (sym c.in_ok-index.ensures)).2
