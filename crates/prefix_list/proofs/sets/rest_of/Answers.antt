use Rattle.std.proofs.Common.{◌≡◌, ℕ, ◌+◌, List, [], ◌∷◌, ◌++◌, take, drop, length, sym, ◌∙◌, ap, subst, ◌↔◌, refl}
use Rattle.std.specs.List.{AllByRecursion}
use Rattle.std.proofs.lemmas.List.{take_more, drop_more, take_all}
use Rattle.inet_num.specs.Net.{Cidr, Address}
use Rattle.span_set.specs.Spans.{Spans, IsIn}
use Rattle.prefix_list.specs.Lists.{AreOf}
use Rattle.prefix_list.specs.Steps.{IsSameFrom, IsBeyond}
use Rattle.prefix_list.proofs.Walks.{split_at, same_all, same_more, same_here, beyond_none, beyond_more, of_at}
use Rattle.prefix_list.proofs.sets.rest_of.Goals as goal

pub each-init : goal.each-init
each-init c = record {
  family = ap (λ (s : Spans). s.family) c.new-set.ensures;
  ordered = c.requires.by_ordered;
  same = same_all c.args.by.now c.args.have.now;
  members = beyond_none c.new-set.result c.args.by.now (ap (λ (s : Spans). s.runs) c.new-set.ensures);
}

pub each-preserved : goal.each-preserved
each-preserved c =
    let have = c.args.have.now in
    let by = c.args.by.now in
    let i = c.each.block-index in
    let block = c.block-item.result in
    let left = c.each.left.now in
    let next = c.reaching-left.result.now in
    let e = split_at have i block c.each-test.true c.block-item.is in
    let e2 : drop i have ≡ block ∷ drop (i + 1) have = drop_more have i block c.each-test.true ∙ ap (λ (b : Cidr). b ∷ drop (i + 1) have) (sym c.block-item.is) in
    let first : c.value.result ≡ block.first = c.value.ensures.value ∙ ap (λ (a : Address). a.value) c.first.ensures in
    let same : IsSameFrom next left block.first = subst (λ (f : ℕ). IsSameFrom next left f) first c.reaching-left.ensures.same in
    let here : IsSameFrom next by block.first = same_here left next by block (drop (i + 1) have) same (subst (AllByRecursion (λ h. IsSameFrom left by h.first)) e2 c.each.invariant.same) in
    let more : take (i + 1) have ≡ take i have ++ block ∷ [] = take_more have i block c.each-test.true ∙ ap (λ (b : Cidr). take i have ++ b ∷ []) (sym c.block-item.is) in
    record {
      family = c.in_ok-add_rest.ensures.family ∙ c.each.invariant.family;
      ordered = c.reaching-left.ensures.ordered;
      same = same_more left next by have i block c.requires.have_ordered e e2 same c.each.invariant.same;
      members = subst (λ (bs : List Cidr). IsBeyond c.add_rest.new.set bs by) (sym more)
          (beyond_more c.each.set c.add_rest.new.set (take i have) by next block c.each.invariant.members here c.in_ok-add_rest.ensures.added);
    }

pub reaching-left-requires : goal.reaching-left-requires
reaching-left-requires c = c.each.invariant.ordered

pub add_rest-requires : goal.add_rest-requires
add_rest-requires c = record {
  family = of_at c.args.family c.args.have.now c.each.block-index c.block-item.result c.requires.family c.each-test.true c.block-item.is ∙ sym c.each.invariant.family;
  ordered = c.reaching-left.ensures.ordered;
}

pub returns : goal.returns
returns c =
    let all = take_all c.each.block-index c.args.have.now c.each-test.false in
    record {
      family = c.each.invariant.family;
      members = subst (λ (bs : List Cidr). IsBeyond c.each.set bs c.args.by.now) all c.each.invariant.members;
    }
