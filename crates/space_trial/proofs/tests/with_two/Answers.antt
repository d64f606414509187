use Rattle.std.proofs.Common.{◌≡◌, ap, arith, length, List}
use Rattle.std.proofs.lemmas.List.Sorted.{length_permutation}
use Rattle.inet_num.specs.Net.{Cidr}
use Rattle.space_trial.proofs.tests.with_two.Goals as goal

pub insert-requires-2-clause-few : goal.insert-requires-2-clause-few
insert-requires-2-clause-few g c =
    let empty = ap (λ (zs : List Cidr). length zs) c.new-space.ensures.empty in
    let same = ap (λ (zs : List Cidr). length zs) c.reserve.ensures.same in
    omega (arith, empty, same, length_permutation _ _ c.insert.ensures.put)
