use Rattle.std.proofs.Common.{◌≡◌, ◌∙◌, arith, subst, sym}
use Rattle.ipam_data.specs.RowList.{Rises}
use Rattle.number_pools.specs.Rows.{Pools, member_id, range_id}
use Rattle.number_pools.specs.Lawful.{IsLawfulPools}
use Rattle.pool_opening.specs.Faults.{loaded}
use Rattle.pool_opening.proofs.Faultless.{faultless_is_lawful}
use Rattle.pool_opening.proofs.faults.rows_of.Goals as goal

pub of-requires-clause-ranges : goal.of-requires-clause-ranges
of-requires-clause-ranges c = subst (Rises range_id 0) (sym c.into_vec.ensures) (faultless_is_lawful c.args.tables (omega arith) (omega arith) c.requires).ranges.ordered

pub of-requires-clause-members : goal.of-requires-clause-members
of-requires-clause-members c = subst (Rises member_id 0) (sym c.into_vec-2.ensures) (faultless_is_lawful c.args.tables (omega arith) (omega arith) c.requires).members.ordered

pub returns-in-Ok-clause-lawful : goal.returns-in-Ok-clause-lawful
returns-in-Ok-clause-lawful c =
    let same : c.in-Ok.rows.pools ≡ loaded c.args.tables =
    c.in-Ok.ensures.pools ∙ (λ i. let s : Pools = record { ranges = record { rows = c.into_vec.ensures i; next = c.args.tables.next_range }; members = record { rows = c.into_vec-2.ensures i; next = c.args.tables.next_member }; spent = 0 } in s) in
    subst IsLawfulPools (sym same) (faultless_is_lawful c.args.tables (omega arith) (omega arith) c.requires)
