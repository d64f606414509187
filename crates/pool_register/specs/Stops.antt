-- What stops a call.
use Rattle.ipam_keeper.specs.declared.keeper.KeepFault.{KeepFault}
use Rattle.ipam_keeper.specs.declared.keeper.KeepFault.TheVariants.{Failed, Memory}
use Rattle.number_pools.specs.declared.calls.PoolRefusal.{PoolRefusal}
use Rattle.number_pools.specs.declared.calls.PoolRefusal.TheVariants.{Keeper as KeeperRefusal, Memory as MemoryRefusal}
use Rattle.pool_register.specs.declared.stop.Stop.{Stop}
use Rattle.pool_register.specs.declared.stop.Stop.TheVariants.{Memory as NoMemory, Keeper}

-- what stops a call if the keeper refuses
abbrev pub stop_of : KeepFault → Stop
stop_of Failed = Keeper
stop_of Memory = NoMemory

abbrev pub no_memory : Stop
no_memory = NoMemory

-- the refusal that gives it
abbrev pub refusal_of : Stop → PoolRefusal
refusal_of NoMemory = MemoryRefusal
refusal_of Keeper = KeeperRefusal
