use Rattle.std.proofs.Common.{◌≡◌, ℕ, ◌+◌, ◌-◌, ◌++◌, List, sym, ◌∙◌, ap, arith}
use Rattle.std.proofs.lemmas.Nat.{pow_pos}
use Rattle.inet_num.specs.Net.{Address, Cidr, width_of, size_of}
use Rattle.inet_num.specs.Free.{picked_at}
use Rattle.inet_num.proofs.PlainSearch.{listed_below, listed_none, listed_more, listed_all}
use Rattle.inet_num.proofs.plain.available_blocks.Goals as goal

pub walk-init : goal.walk-init
walk-init c =
    let within = c.args.within.now in
    let some = pow_pos (width_of within.family - within.len) in
    let at : c.value-at.result ≡ within.first = c.value-at.ensures.value ∙ ap (λ (a : Address). a.value) c.first.ensures in
    let last : c.value-last.result ≡ within.first + size_of within - 1 = c.value-last.ensures.value ∙ ap (λ (a : Address). a.value) c.last.ensures in
    let none : c.value-at.result - within.first ≡ 0 = omega arith in
    record {
      low = omega arith;
      high = omega arith;
      found = c.new-out.ensures.items ∙ sym (ap (listed_below within c.args.children.now) none ∙ listed_none within c.args.children.now);
    }

pub walk-preserved : goal.walk-preserved
walk-preserved c =
    let within = c.args.within.now in
    let children = c.args.children.now in
    let at = c.walk.at in
    let low = c.walk.invariant.low in
    let n : at + 1 - within.first ≡ (at - within.first) + 1 = omega arith in
    let back : at ≡ within.first + (at - within.first) = omega arith in
    record {
      low = omega arith;
      high = omega arith;
      found = c.in_ok-push_at.ensures
          ∙ ap (λ (bs : List Cidr). bs ++ picked_at within children at) c.walk.invariant.found
          ∙ ap (λ (k : ℕ). listed_below within children (at - within.first) ++ picked_at within children k) back
          ∙ sym (ap (listed_below within children) n ∙ listed_more within children (at - within.first));
    }

pub returns : goal.returns
returns c =
    let within = c.args.within.now in
    let children = c.args.children.now in
    let at = c.walk.at in
    let some = pow_pos (width_of within.family - within.len) in
    let low = c.walk.invariant.low in
    let high = c.walk.invariant.high in
    let last : c.value-last.result ≡ within.first + size_of within - 1 = c.value-last.ensures.value ∙ ap (λ (a : Address). a.value) c.last.ensures in
    let n : (at - within.first) + 1 ≡ size_of within = omega arith in
    let back : at ≡ within.first + (at - within.first) = omega arith in
    c.in_ok-push_at-2.ensures
    ∙ ap (λ (bs : List Cidr). bs ++ picked_at within children at) c.walk.invariant.found
    ∙ ap (λ (k : ℕ). listed_below within children (at - within.first) ++ picked_at within children k) back
    ∙ sym (listed_more within children (at - within.first))
    ∙ ap (listed_below within children) n
    ∙ listed_all within children
