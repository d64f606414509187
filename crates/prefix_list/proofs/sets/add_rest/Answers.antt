use Rattle.std.proofs.Common.{◌≡◌, ◌⊎◌, ℕ, ◌+◌, ◌-◌, ◌<◌, ◌≤◌, List, [], ◌∷◌, ◌++◌, take, drop, sym, ◌∙◌, ap, subst, arith}
use Rattle.std.proofs.lemmas.List.{take_more}
use Rattle.std.proofs.lemmas.Nat.{pow_pos}
use Rattle.inet_num.specs.Net.{Cidr, Address, width_of, size_of}
use Rattle.span_set.proofs.Members.{on_ok}
use Rattle.prefix_list.specs.Steps.{GainsUpTo}
use Rattle.prefix_list.proofs.Walks.{IsPast, split_at, none_up_to, rest_added, rest_ended, past_more, below_more}
use Rattle.prefix_list.proofs.sets.add_rest.Goals as goal

pub returns-then-last-first-clause-added : goal.returns-then-last-first-clause-added
returns-then-last-first-clause-added c =
    let by = c.args.by.now in
    let block = c.args.block.now in
    let i = c.walk.taken-index in
    let taken = c.taken-item.result in
    let e = split_at by i taken c.walk-test.true c.taken-item.is in
    let last : c.value-last.result ≡ block.first + size_of block - 1 = c.value-last.ensures.value ∙ ap (λ (a : Address). a.value) c.last.ensures in
    let first : c.value-first.result ≡ taken.first = c.value-first.ensures.value ∙ ap (λ (a : Address). a.value) c.first-in-walk.ensures in
    let high = c.walk.invariant.high in
    let behind = c.if-last-first.true in
    on_ok c.add_from.result
    (λ gains. rest_added c.args.set.now c.walk.set c.add_from.new.set block by c.walk.at c.walk.invariant.below c.walk.invariant.low (omega arith)
    (λ n le less. none_up_to by (take i by) taken (drop (i + 1) by) c.walk.at n c.requires.ordered e c.walk.invariant.past le (omega arith)) gains)
    c.add_from.ensures.added

pub returns-then-last-end-clause-added : goal.returns-then-last-end-clause-added
returns-then-last-end-clause-added c =
    let by = c.args.by.now in
    let block = c.args.block.now in
    let i = c.walk.taken-index in
    let taken = c.taken-item.result in
    let e = split_at by i taken c.walk-test.true c.taken-item.is in
    let last : c.value-last.result ≡ block.first + size_of block - 1 = c.value-last.ensures.value ∙ ap (λ (a : Address). a.value) c.last.ensures in
    let first : c.value-first.result ≡ taken.first = c.value-first.ensures.value ∙ ap (λ (a : Address). a.value) c.first-in-walk.ensures in
    let end : c.value-end.result ≡ taken.first + size_of taken - 1 = c.value-end.ensures.value ∙ ap (λ (a : Address). a.value) c.last-in-walk.ensures in
    let some = pow_pos (width_of taken.family - taken.len) in
    let some_block = pow_pos (width_of block.family - block.len) in
    let high = c.walk.invariant.high in
    let begins = c.if-last-first.false in
    let ends = c.if-last-end.true in
    let gains : GainsUpTo c.walk.set c.add_up_to.new.set c.walk.at taken.first =
    subst (λ (t : ℕ). GainsUpTo c.walk.set c.add_up_to.new.set c.walk.at t) first c.in_ok-add_up_to.ensures.added in
    rest_ended c.args.set.now c.walk.set c.add_up_to.new.set block by (take i by) taken (drop (i + 1) by) c.walk.at c.requires.ordered e
    c.walk.invariant.below c.walk.invariant.past c.walk.invariant.low (omega arith) (omega arith) (omega arith) gains

pub walk-preserved : goal.walk-preserved
walk-preserved c =
    let by = c.args.by.now in
    let block = c.args.block.now in
    let i = c.walk.taken-index in
    let taken = c.taken-item.result in
    let e = split_at by i taken c.walk-test.true c.taken-item.is in
    let last : c.value-last.result ≡ block.first + size_of block - 1 = c.value-last.ensures.value ∙ ap (λ (a : Address). a.value) c.last.ensures in
    let first : c.value-first.result ≡ taken.first = c.value-first.ensures.value ∙ ap (λ (a : Address). a.value) c.first-in-walk.ensures in
    let end : c.value-end.result ≡ taken.first + size_of taken - 1 = c.value-end.ensures.value ∙ ap (λ (a : Address). a.value) c.last-in-walk.ensures in
    let some = pow_pos (width_of taken.family - taken.len) in
    let some_block = pow_pos (width_of block.family - block.len) in
    let low = c.walk.invariant.low in
    let high = c.walk.invariant.high in
    let within = c.if-last-end.false in
    let next = c.max-at.ensures in
    let gains : GainsUpTo c.walk.set c.add_up_to.new.set c.walk.at taken.first =
    subst (λ (t : ℕ). GainsUpTo c.walk.set c.add_up_to.new.set c.walk.at t) first c.in_ok-add_up_to.ensures.added in
    let more : take (i + 1) by ≡ take i by ++ taken ∷ [] = take_more by i taken c.walk-test.true ∙ ap (λ (b : Cidr). take i by ++ b ∷ []) (sym c.taken-item.is) in
    record {
      family = c.in_ok-add_up_to.ensures.family ∙ c.walk.invariant.family;
      low = omega arith;
      high = omega arith;
      past = subst (λ (bs : List Cidr). IsPast bs c.max-at.result) (sym more)
          (past_more (take i by) taken c.walk.at c.value-end.result c.max-at.result c.walk.invariant.past (omega arith) next);
      below = below_more c.args.set.now c.walk.set c.add_up_to.new.set block by (take i by) taken (drop (i + 1) by) c.walk.at c.value-end.result c.max-at.result
          c.requires.ordered e c.walk.invariant.below c.walk.invariant.past low (omega arith) next gains;
    }
