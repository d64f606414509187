use Rattle.std.proofs.Common.{ap, arith, length, List}
use Rattle.std.proofs.lemmas.List.Sorted.{length_permutation}
use Rattle.inet_num.specs.Net.{Cidr}
use Rattle.radix_tree.proofs.Copies.{no_longer}
use Rattle.space_trial.proofs.changes.apply.Goals as goal

pub returns-then-is_put-clause-few : goal.returns-then-is_put-clause-few
returns-then-is_put-clause-few g c =
    let same = ap (λ (zs : List Cidr). length zs) c.reserve.ensures.same in
    omega (arith, same, length_permutation _ _ c.insert.ensures.put)

pub returns-clause-few : goal.returns-clause-few
returns-clause-few g c = no_longer c.remove.result c.in-Some-block_of.block _ _ c.remove.ensures.taken
