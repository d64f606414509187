use Rattle.std.proofs.Common.{◌≡◌, ◌∙◌, ℕ, List, arith, subst, sym}
use Rattle.inet_num.specs.Net.{Cidr}
use Rattle.prefix_list.specs.Lists.{addresses_beyond}
use Rattle.prefix_list.specs.Steps.{IsBeyond}
use Rattle.prefix_list.proofs.JustSets.{IsSetOf, is_beyond_set, just, none_shorter, of_first, ok_one, ok_two, same_beyond}
use Rattle.prefix_list.proofs.sets.uncovered.Goals as goal

pub returns-clause-addresses : goal.returns-clause-addresses
returns-clause-addresses c =
    let have = c.args.have.now in
    let by = c.args.by.now in
    let set = c.in_ok-set.set in
    let family = c.requires.0 in
    let own : set.family ≡ family = c.in_ok-set.ensures.family ∙ c.family-family.ensures.family ∙ of_first family have c.first-item.result c.requires.1 c.in-len1-up.len_at_least c.first-item.is in
    let beyond_there : IsBeyond set c.deref.result.now c.deref-2.result.now = c.in_ok-set.ensures.members in
    let beyond_sorted : IsBeyond set c.in_ok-own.own.items c.in_ok-others.others.items =
    subst (λ (bs : List Cidr). IsBeyond set c.in_ok-own.own.items bs) c.deref-2.ensures.value (subst (λ (bs : List Cidr). IsBeyond set bs c.deref-2.result.now) c.deref.ensures.value beyond_there) in
    let beyond : IsBeyond set have by = same_beyond set have by c.in_ok-own.own.items c.in_ok-others.others.items
    (λ n. c.in_ok-own.ensures.same n (omega arith)) (λ n. c.in_ok-others.ensures.same n (omega arith)) beyond_sorted in
    let is : IsSetOf set (addresses_beyond have by) = is_beyond_set set family have by own c.requires.1 c.requires.2 beyond in
    ok_two c.blocks-2.result (λ v of members. just set (addresses_beyond have by) v.items is of members) c.blocks-2.ensures.family c.blocks-2.ensures.members

pub returns-clause-shortest : goal.returns-clause-shortest
returns-clause-shortest c =
    let have = c.args.have.now in
    let by = c.args.by.now in
    let set = c.in_ok-set.set in
    let family = c.requires.0 in
    let own : set.family ≡ family = c.in_ok-set.ensures.family ∙ c.family-family.ensures.family ∙ of_first family have c.first-item.result c.requires.1 c.in-len1-up.len_at_least c.first-item.is in
    let beyond_there : IsBeyond set c.deref.result.now c.deref-2.result.now = c.in_ok-set.ensures.members in
    let beyond_sorted : IsBeyond set c.in_ok-own.own.items c.in_ok-others.others.items =
    subst (λ (bs : List Cidr). IsBeyond set c.in_ok-own.own.items bs) c.deref-2.ensures.value (subst (λ (bs : List Cidr). IsBeyond set bs c.deref-2.result.now) c.deref.ensures.value beyond_there) in
    let beyond : IsBeyond set have by = same_beyond set have by c.in_ok-own.own.items c.in_ok-others.others.items
    (λ n. c.in_ok-own.ensures.same n (omega arith)) (λ n. c.in_ok-others.ensures.same n (omega arith)) beyond_sorted in
    let is : IsSetOf set (addresses_beyond have by) = is_beyond_set set family have by own c.requires.1 c.requires.2 beyond in
    ok_one c.blocks-2.result (λ v none. none_shorter set (addresses_beyond have by) v.items is none) c.blocks-2.ensures.shortest
