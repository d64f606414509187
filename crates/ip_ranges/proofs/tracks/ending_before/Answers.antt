use Rattle.std.proofs.Common.{nat_lt, arith, rules}
use Rattle.std.proofs.lemmas.Bool.Decides.{nat_tests}
use Rattle.std.proofs.lemmas.List.Sorted.{IsPartitionPoint-from_clause, IsPartitionedBy-ltb}
use Rattle.ip_ranges.specs.Tracks.{number, high}
use Rattle.ip_ranges.proofs.Entries.{separate_ends}
use Rattle.ip_ranges.proofs.tracks.ending_before.Goals as goal

pub returns-clause-point : goal.returns-clause-point
returns-clause-point c =
    let place = number c.args.place.lane c.args.place.value in
    let point = IsPartitionPoint-from_clause (λ e. nat_lt (high e) place) _ _ c.partition_point.ensures.partitioned (IsPartitionedBy-ltb high c.args.entries.now place (separate_ends 0 c.args.entries.now c.requires)) (λ a r q k. search rules) in
    (λ k d a b. (let t = point.0 k d a b in grind (arith, nat_tests)), λ k d a b. (let t = point.1 k d a b in grind (arith, nat_tests)))
