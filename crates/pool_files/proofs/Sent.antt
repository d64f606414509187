-- A keeper over a file of the host may go to another thread: what it has of the system is the number of a file, and the list of its calls is
-- there for clauses alone. The library that names the file of the host leaves this to its callers.
use denote.RattleType.{RattleType}
use denote.Param.Send.{IsSend, owning_send, recorded_send, struct_send, sendable}
use denote.Struct.Declared.{shape}
use Rattle.std.proofs.fs.File.TheSendSync as file
use Rattle.sqlite_disk.specs.contracts.start.Unknown as Unknown
use Rattle.sqlite_disk.specs.contracts.start.UnknownStart.TheImpl as start
use Rattle.sqlite_disk.specs.contracts.modelled.Modelled as Modelled
use Rattle.sqlite_disk.specs.contracts.modelled.ModelledDisk.TheImpl as disk
use Rattle.sqlite_disk.proofs.modelled.Modelled.TheSendSync as modelled
use Rattle.sqlite_std_file.specs.contracts.record.Record as Record
use Rattle.sqlite_std_file.specs.contracts.host.Host as Host
use Rattle.sqlite_std_file.specs.contracts.host.HostCalls.TheImpl as calls
use Rattle.sqlite_store.specs.contracts.store.FileStore as FileStore
use Rattle.sqlite_store.specs.contracts.store.FileStoreStore.TheImpl as file_store
use Rattle.sqlite_store.proofs.store.FileStore.TheSendSync as store
use Rattle.sqlite_pools.specs.contracts.keeper.SqlitePools as SqlitePools
use Rattle.sqlite_pools.proofs.keeper.SqlitePools.TheSendSync as sqlite_pools
use Rattle.sqlite_pools.specs.contracts.opener.StorePools as StorePools
use Rattle.sqlite_pools.proofs.opener.StorePools.TheSendSync as store_pools
use Rattle.pool_files.specs.contracts.files.HostPools as HostPools

record_send : IsSend Record.the_row
record_send = owning_send Record.the_type (search sendable, tt) (λ d. tt) (λ k x w. tt)

host_send : IsSend Host.the_row
host_send = recorded_send Host.the_field.row _ _ Host.the_type.to_one (struct_send (shape Host.the_type) (file.the_field_send, (record_send, tt)))

abbrev file_row : RattleType
file_row = Modelled.the_row Host.the_row Unknown.the_row calls.ghosts start.ghosts

file_send : IsSend file_row
file_send = modelled.the_send Host.the_row Unknown.the_row calls.ghosts start.ghosts host_send

store_send : IsSend (FileStore.the_row file_row (disk.ghosts Host.the_row Unknown.the_row calls.ghosts disk.no_dict start.ghosts disk.no_dict disk.no_dict))
store_send = store.the_send file_row (disk.ghosts Host.the_row Unknown.the_row calls.ghosts disk.no_dict start.ghosts disk.no_dict disk.no_dict) file_send

keeper_send : IsSend (SqlitePools.the_row
    (FileStore.the_row file_row (disk.ghosts Host.the_row Unknown.the_row calls.ghosts disk.no_dict start.ghosts disk.no_dict disk.no_dict))
    (file_store.ghosts file_row (disk.ghosts Host.the_row Unknown.the_row calls.ghosts disk.no_dict start.ghosts disk.no_dict disk.no_dict) file_store.no_dict))
keeper_send = sqlite_pools.the_send
    (FileStore.the_row file_row (disk.ghosts Host.the_row Unknown.the_row calls.ghosts disk.no_dict start.ghosts disk.no_dict disk.no_dict))
    (file_store.ghosts file_row (disk.ghosts Host.the_row Unknown.the_row calls.ghosts disk.no_dict start.ghosts disk.no_dict disk.no_dict) file_store.no_dict)
    store_send

host_pools_send : IsSend HostPools.the_row
host_pools_send = recorded_send HostPools.the_field.row _ _ HostPools.the_type.to_one (struct_send (shape HostPools.the_type) (keeper_send, tt))

pub kept_send : IsSend (StorePools.the_row HostPools.the_row)
kept_send = store_pools.the_send HostPools.the_row host_pools_send
