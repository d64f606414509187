-- What holds of the plain pools.
use Rattle.number_pools.specs.declared.calls.PoolCall.{PoolCall}
use Rattle.number_pools.specs.Rows.{Pools, empty_pools}
use Rattle.number_pools.specs.Lawful.{IsLawfulPools}
use Rattle.number_pools.specs.Steps.{plain_pool_step}

-- pools without rows are lawful
abbrev pub EmptyIsLawful : Type 0
EmptyIsLawful = IsLawfulPools empty_pools

-- whatever is asked of lawful pools, they stay lawful
abbrev pub StepsKeepLawful : Type 0
StepsKeepLawful = (s : Pools) (call : PoolCall) → IsLawfulPools s → IsLawfulPools (plain_pool_step s call).0
