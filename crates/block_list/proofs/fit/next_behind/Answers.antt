use Rattle.std.proofs.Common.{◌≡◌, ◌+◌, ◌-◌, ◌^◌, refl, ◌∙◌, ap, arith, bit_and}
use Rattle.inet_num.specs.declared.Family.{Family}
use Rattle.inet_num.specs.Net.{width_of, Address}
use Rattle.inet_num.proofs.Numbers.{block_fits}
use Rattle.block_list.proofs.Places.{step_of, top_fits, none_behind, next_of}
use Rattle.block_list.proofs.fit.next_behind.Goals as goal

pub overflow_add-top : goal.overflow_add-top
overflow_add-top c =
    let e : c.low_ones-ones.result + 1 ≡ step_of c.args.within.now c.args.len = c.low_ones-ones.ensures ∙ ap (λ (f : Family). 2 ^ (width_of f - c.args.len)) c.family-family.ensures.family in
    let fits = block_fits c.args.within.now c.family-family.ensures.lawful in
    let below = c.requires.inside.1 in
    let top = top_fits c.args.within.now c.args.len c.args.last c.low_ones-ones.result e c.requires.short (omega arith) in
    omega arith

pub returns-then-top-value : goal.returns-then-top-value
returns-then-top-value c =
    let e : c.low_ones-ones.result + 1 ≡ step_of c.args.within.now c.args.len = c.low_ones-ones.ensures ∙ ap (λ (f : Family). 2 ^ (width_of f - c.args.len)) c.family-family.ensures.family in
    none_behind c.args.within.now c.args.len c.args.last c.low_ones-ones.result c.value.result e (c.value.ensures.value ∙ ap (λ (a : Address). a.value) c.last.ensures) c.if-top-value.true

pub returns : goal.returns
returns c =
    let e : c.low_ones-ones.result + 1 ≡ step_of c.args.within.now c.args.len = c.low_ones-ones.ensures ∙ ap (λ (f : Family). 2 ^ (width_of f - c.args.len)) c.family-family.ensures.family in
    next_of c.args.within.now c.args.len c.args.last c.low_ones-ones.result (c.args.last - bit_and c.args.last c.low_ones-ones.result + c.low_ones-ones.result) c.value.result c.in_ok-of.field-0 c.of-2.result c.family-family.ensures.lawful c.requires.long c.requires.short c.requires.inside e refl
    (c.value.ensures.value ∙ ap (λ (a : Address). a.value) c.last.ensures) c.if-top-value.false (c.in_ok-of.ensures.some ∙ ap (λ (f : Family). let a : Address = record { family = f; value = c.args.last - bit_and c.args.last c.low_ones-ones.result + c.low_ones-ones.result + 1 } in a) c.family-family.ensures.family) c.of-2.ensures.some c.of-2.ensures.cause
