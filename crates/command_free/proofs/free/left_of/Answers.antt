use Rattle.std.proofs.Common.{◌≡◌, ◌↔◌, ℕ, ◌+◌, List, [], ◌∷◌, ◌++◌, take, sym, ◌∙◌, ap, subst}
use Rattle.std.proofs.lemmas.List.{take_more}
use Rattle.inet_num.specs.Net.{Cidr, Address, first_of, last_of}
use Rattle.span_set.specs.Runs.{IsBetween}
use Rattle.span_set.specs.Spans.{IsIn}
use Rattle.span_set.specs.Blocks.{IsRest}
use Rattle.span_set.proofs.Rest.{rest_more}
use Rattle.command_free.proofs.free.left_of.Goals as goal

pub loop-child-preserved : goal.loop-child-preserved
loop-child-preserved c =
    let within = c.args.within.now in
    let children = c.args.children.now in
    let i = c.loop-child.child-index in
    let child = c.child-item.result in
    let old = c.loop-child.left in
    let new = c.subtract.new.self in
    let first = ap (λ (a : Address). a.value) c.span_of-in-loop-child.ensures.first in
    let last = ap (λ (a : Address). a.value) c.span_of-in-loop-child.ensures.last in
    let Takes : ℕ → ℕ → Type 0 = λ f l. (a : ℕ) → IsIn new a ↔ (IsIn old a × ¬ IsBetween f l a) in
    let taken_there : Takes c.span_of-in-loop-child.result.first.value c.span_of-in-loop-child.result.last.value = c.in_ok-subtract.ensures.taken in
    let takes : Takes (first_of child).value (last_of child).value = subst (λ (l : ℕ). Takes (first_of child).value l) last (subst (λ (f : ℕ). Takes f c.span_of-in-loop-child.result.last.value) first taken_there) in
    let more : IsRest new within (take i children ++ child ∷ []) = rest_more old new within child (take i children) c.loop-child.invariant.rest takes in
    let taken : take (i + 1) children ≡ take i children ++ child ∷ [] = take_more children i child c.loop-child-test.true ∙ ap (λ (b : Cidr). take i children ++ b ∷ []) (sym c.child-item.is) in
    record { family = c.in_ok-subtract.ensures.family ∙ c.loop-child.invariant.family; rest = subst (λ (bs : List Cidr). IsRest new within bs) (sym taken) more }
