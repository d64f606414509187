use Rattle.std.proofs.Common.{◌≡◌, ℕ, ◌+◌, ◌-◌, ◌∙◌, sym, ap, subst, arith, List, Option, Some, None}
use Rattle.std.proofs.lemmas.Nat.{pow_pos}
use Rattle.inet_num.specs.Net.{Address, Cidr, width_of}
use Rattle.inet_num.specs.declared.Family.{Family}
use Rattle.inet_num.proofs.Numbers.{ends_of_inside}
use Rattle.block_space.specs.Listed.{counting_of}
use Rattle.block_space.specs.Fit.{IsFirstFit, IsFirstAvailable}
use Rattle.block_list.proofs.Widening.{none_here, here_is, none_after, none_behind, behind_is}
use Rattle.block_list.proofs.available.next_available.Goals as goal

-- the fit that was looked for has the length of a single address
single : (w : Cidr) (blocks : List Cidr) (width from : ℕ) (r : Option Cidr) (f : Family) → f ≡ w.family → width ≡ width_of f → IsFirstFit w blocks width from r → IsFirstFit w blocks (width_of w.family) from r
single w blocks width from r f e is h = subst (λ (n : ℕ). IsFirstFit w blocks n from r) (is ∙ ap width_of e) h

pub returns-in_err-single : goal.returns-in_err-single
returns-in_err-single c =
    let w = c.args.within.now in
    let blocks = counting_of c.args.blocks.now c.args.within.now c.args.strict in
    subst (λ (r : Option Cidr). IsFirstAvailable w blocks c.args.from r) (sym c.from_residual.ensures)
    (none_here w blocks c.args.from (single w blocks c.width-width.result c.args.from None c.family.result c.family.ensures.family c.width-width.ensures c.in_err-single.ensures))

pub returns-then-value-from : goal.returns-then-value-from
returns-then-value-from c =
    let w = c.args.within.now in
    let blocks = counting_of c.args.blocks.now c.args.within.now c.args.strict in
    let value_is = c.value.ensures.value ∙ ap (λ (a : Address). a.value) c.first.ensures in
    let over = c.if-value-from.true in
    here_is w blocks c.args.from c.in_ok-single.single c.widened-here.result
    (single w blocks c.width-width.result c.args.from (Some c.in_ok-single.single) c.family.result c.family.ensures.family c.width-width.ensures c.in_ok-single.ensures) c.widened-here.ensures (omega arith)

pub returns-then-end-value : goal.returns-then-end-value
returns-then-end-value c =
    let w = c.args.within.now in
    let blocks = counting_of c.args.blocks.now c.args.within.now c.args.strict in
    let value_is = c.value.ensures.value ∙ ap (λ (a : Address). a.value) c.first.ensures in
    let under = c.if-value-from.false in
    none_after w blocks c.args.from c.in_ok-single.single c.widened-here.result c.value-end.result c.value-2.result c.widened-here.ensures (omega arith)
    (c.value-end.ensures.value ∙ ap (λ (a : Address). a.value) c.last.ensures) (c.value-2.ensures.value ∙ ap (λ (a : Address). a.value) c.last-2.ensures) c.if-end-value.true

pub lowest_fit-requires-2-clause-inside : goal.lowest_fit-requires-2-clause-inside
lowest_fit-requires-2-clause-inside c =
    let end_is = c.value-end.ensures.value ∙ ap (λ (a : Address). a.value) c.last.ensures in
    let high_is = c.value-2.ensures.value ∙ ap (λ (a : Address). a.value) c.last-2.ensures in
    let under = c.if-end-value.false in
    let ends = ends_of_inside c.widened-here.result c.args.within.now c.widened-here.ensures.available.inside in
    let low = ends.0 in
    let some = pow_pos (width_of c.widened-here.result.family - c.widened-here.result.len) in
    (omega arith, omega arith)

pub returns-in_err-behind : goal.returns-in_err-behind
returns-in_err-behind c =
    let w = c.args.within.now in
    let blocks = counting_of c.args.blocks.now c.args.within.now c.args.strict in
    let value_is = c.value.ensures.value ∙ ap (λ (a : Address). a.value) c.first.ensures in
    let under = c.if-value-from.false in
    subst (λ (r : Option Cidr). IsFirstAvailable w blocks c.args.from r) (sym c.from_residual-in_err-behind.ensures)
    (none_behind w blocks c.args.from c.in_ok-single.single c.widened-here.result c.value-end.result c.widened-here.ensures (omega arith) (c.value-end.ensures.value ∙ ap (λ (a : Address). a.value) c.last.ensures)
    (single w blocks c.width-width.result (c.value-end.result + 1) None c.family.result c.family.ensures.family c.width-width.ensures c.in_err-behind.ensures))

pub returns : goal.returns
returns c =
    let w = c.args.within.now in
    let blocks = counting_of c.args.blocks.now c.args.within.now c.args.strict in
    let value_is = c.value.ensures.value ∙ ap (λ (a : Address). a.value) c.first.ensures in
    let under = c.if-value-from.false in
    behind_is w blocks c.args.from c.in_ok-single.single c.widened-here.result c.in_ok-behind.behind c.widened.result c.value-end.result
    (single w blocks c.width-width.result c.args.from (Some c.in_ok-single.single) c.family.result c.family.ensures.family c.width-width.ensures c.in_ok-single.ensures) c.widened-here.ensures (omega arith)
    (c.value-end.ensures.value ∙ ap (λ (a : Address). a.value) c.last.ensures)
    (single w blocks c.width-width.result (c.value-end.result + 1) (Some c.in_ok-behind.behind) c.family.result c.family.ensures.family c.width-width.ensures c.in_ok-behind.ensures) c.widened.ensures
