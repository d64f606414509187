use Rattle.std.proofs.Common.{◌≡◌, ◌∙◌, subst, sym}
use Rattle.inet_num.specs.declared.Family.{Family}
use Rattle.prefix_list.specs.Lists.{addresses_of_list, AreOf}
use Rattle.prefix_list.proofs.JustSets.{IsSetOf, is_list_set, just, none_shorter, of_first, ok_one, ok_two}
use Rattle.prefix_list.proofs.sets.fewest.Goals as goal

pub returns-clause-addresses : goal.returns-clause-addresses
returns-clause-addresses c =
    let blocks = c.args.blocks.now in
    let set = c.in_ok-set.set in
    let own : set.family ≡ c.requires.0 = c.in_ok-set.ensures.family ∙ c.family.ensures.family ∙ of_first c.requires.0 blocks c.first-item.result c.requires.1 c.in-len1-up.len_at_least c.first-item.is in
    let is : IsSetOf set (addresses_of_list blocks) = is_list_set set c.requires.0 blocks own c.requires.1 c.in_ok-set.ensures.members in
    ok_two c.blocks-2.result (λ v family members. just set (addresses_of_list blocks) v.items is family members) c.blocks-2.ensures.family c.blocks-2.ensures.members

pub returns-clause-shortest : goal.returns-clause-shortest
returns-clause-shortest c =
    let blocks = c.args.blocks.now in
    let set = c.in_ok-set.set in
    let own : set.family ≡ c.requires.0 = c.in_ok-set.ensures.family ∙ c.family.ensures.family ∙ of_first c.requires.0 blocks c.first-item.result c.requires.1 c.in-len1-up.len_at_least c.first-item.is in
    let is : IsSetOf set (addresses_of_list blocks) = is_list_set set c.requires.0 blocks own c.requires.1 c.in_ok-set.ensures.members in
    ok_one c.blocks-2.result (λ v none. none_shorter set (addresses_of_list blocks) v.items is none) c.blocks-2.ensures.shortest
