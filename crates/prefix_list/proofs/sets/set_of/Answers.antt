use Rattle.std.proofs.Common.{◌≡◌, ◌↔◌, ◌⊎◌, ℕ, ◌+◌, List, [], ◌∷◌, ◌++◌, IsTrue, take, sym, ◌∙◌, ap, subst}
use Rattle.std.proofs.lemmas.List.{take_more}
use Rattle.inet_num.specs.Net.{Cidr, Address, first_of, last_of}
use Rattle.inet_num.specs.Free.{is_taken}
use Rattle.span_set.specs.Runs.{IsBetween}
use Rattle.span_set.specs.Spans.{IsIn}
use Rattle.prefix_list.proofs.JustSets.{added_more}
use Rattle.prefix_list.proofs.sets.set_of.Goals as goal

pub loop-block-preserved : goal.loop-block-preserved
loop-block-preserved c =
    let blocks = c.args.blocks.now in
    let i = c.loop-block.block-index in
    let block = c.block-item.result in
    let old = c.loop-block.set in
    let new = c.add.new.self in
    let first = ap (λ (a : Address). a.value) c.span_of.ensures.first in
    let last = ap (λ (a : Address). a.value) c.span_of.ensures.last in
    let Adds : ℕ → ℕ → Type 0 = λ f l. (n : ℕ) → IsIn new n ↔ (IsIn old n ⊎ IsBetween f l n) in
    let added_there : Adds c.span_of.result.first.value c.span_of.result.last.value = c.in_ok-add.ensures.added in
    let added : Adds (first_of block).value (last_of block).value =
    subst (λ (l : ℕ). Adds (first_of block).value l) last (subst (λ (f : ℕ). Adds f c.span_of.result.last.value) first added_there) in
    let taken : take (i + 1) blocks ≡ take i blocks ++ block ∷ [] = take_more blocks i block c.loop-block-test.true ∙ ap (λ (b : Cidr). take i blocks ++ b ∷ []) (sym c.block-item.is) in
    record {
      family = c.in_ok-add.ensures.family ∙ c.loop-block.invariant.family;
      members = λ n. subst (λ (bs : List Cidr). IsIn new n ↔ IsTrue (is_taken bs n)) (sym taken) (added_more old new block (take i blocks) c.loop-block.invariant.members added n);
    }
