-- Which numbers of a range are free.
use Rattle.std.specs.Prelude.{ℕ, ◌+◌, ◌-◌, ◌==◌, ◌&&◌, Bool, not, List, filter, Option, Some, None}
use Rattle.std.specs.List.{list_any}
use Rattle.inet_num.specs.Count.{numbers_from}
use Rattle.ipam_data.specs.RowList.{row_at}
use Rattle.number_pools.specs.declared.rows.PoolKind.{PoolKind}
use Rattle.number_pools.specs.declared.rows.PoolKind.TheVariants.{Asn, Vlan}
use Rattle.number_pools.specs.declared.rows.NumberRange.{NumberRange}
use Rattle.number_pools.specs.declared.rows.Member.{Member}
use Rattle.number_pools.specs.Rows.{Pools, range_id}

-- all ranges of ASNs give out of one pool, and each group of VLANs out of its own
abbrev pub pool_by : PoolKind → ℕ → ℕ
pool_by Asn id = 0
pool_by Vlan id = id

abbrev pub pool_of : NumberRange → ℕ
pool_of range = pool_by range.kind range.id

-- the pool of the range of this id; without one, that id
abbrev pub pool_found : Option NumberRange → ℕ → ℕ
pool_found (Some range) id = pool_of range
pool_found None id = id

-- the pool that a member holds its number of
abbrev pub pool_at : List NumberRange → Member → ℕ
pool_at ranges member = pool_found (row_at range_id ranges member.range) member.range

-- the member holds this number of this pool
abbrev pub holds : List NumberRange → ℕ → ℕ → Member → Bool
holds ranges pool n m = pool_at ranges m == pool && m.number == n

-- some member holds it
abbrev pub is_held : List NumberRange → List Member → ℕ → ℕ → Bool
is_held ranges members pool n = list_any (holds ranges pool n) members

-- the numbers of a range, in order
abbrev pub numbers_in : NumberRange → List ℕ
numbers_in range = numbers_from range.first (range.last + 1 - range.first)

-- the free numbers of a range, in order: those of its own that no member of its pool holds
abbrev pub free_numbers : Pools → NumberRange → List ℕ
free_numbers s range = filter (λ n. not (is_held s.ranges.rows s.members.rows (pool_of range) n)) (numbers_in range)
