use Rattle.std.proofs.Common.{nat_lt, arith, rules}
use Rattle.std.proofs.lemmas.Bool.Decides.{nat_tests}
use Rattle.std.proofs.lemmas.List.Sorted.{IsPartitionPoint-from_clause, IsPartitionedBy-ltb}
use Rattle.ip_ranges.specs.Tracks.{number, low}
use Rattle.ip_ranges.proofs.tracks.beginning_before.Goals as goal

pub returns-clause-point : goal.returns-clause-point
returns-clause-point c =
    let place = number c.args.place.lane c.args.place.value in
    let point = IsPartitionPoint-from_clause (λ e. nat_lt (low e) place) _ _ c.partition_point.ensures.partitioned (IsPartitionedBy-ltb low c.args.entries.now place c.requires) (λ a r q k. search rules) in
    (λ k d a b. (let t = point.0 k d a b in grind (arith, nat_tests)), λ k d a b. (let t = point.1 k d a b in grind (arith, nat_tests)))
