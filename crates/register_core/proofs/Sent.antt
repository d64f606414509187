-- A register may go to another thread where its keeper may, and threads may share a lock over one.
use denote.RattleType.{RattleType}
use denote.Param.Send.{IsSend, IsSync, recorded_send, struct_send, view_send}
use denote.Struct.Declared.{shape}
use Rattle.std.proofs.Crossing.{Vec-send, crosses}
use Rattle.std.proofs.option.Option.TheSendSync as option
use Rattle.std.specs.contracts.vec.Vec as Vec
use Rattle.std.specs.contracts.option.Option as Option
use Rattle.std.specs.contracts.alloc.Global as Heap
use Rattle.std.specs.contracts.impls.GlobalAllocator.TheImpl.{ghosts}
use Rattle.history_lock.specs.contracts.lock.Seat as Seat
use Rattle.history_lock.specs.contracts.lock.Shared as Shared
use Rattle.history_lock.proofs.lock.Seat.TheSendSync as seat
use Rattle.history_lock.proofs.lock.Shared.TheSendSync as shared
use Rattle.ipam_data.specs.contracts.calls.Call as Call
use Rattle.ipam_data.specs.contracts.replies.Reply as Reply
use Rattle.ipam_data.specs.contracts.update.Update as Update
use Rattle.ipam_data.proofs.update.Update.TheSendSync as update
use Rattle.ipam_keeper.specs.declared.keeper.Keeper as keeper
use Rattle.stored_tables.specs.contracts.tables.Change as Change
use Rattle.stored_tables.proofs.tables.Change.TheSendSync as change
use Rattle.register_core.specs.contracts.log.Entry as Entry
use Rattle.register_core.specs.contracts.machine.SeenState as SeenState
use Rattle.register_core.specs.contracts.machine.RegisterMachine.TheImpl as machine
use Rattle.register_core.specs.contracts.register.Register as Register
use Rattle.register_core.specs.contracts.register.Register.TheInside as inside
use Rattle.register_core.proofs.books.Books.TheSendSync as books
use Rattle.register_core.proofs.copies.Lending.TheSendSync as lending
use Rattle.register_core.proofs.log.Entry.TheSendSync as entry

entries_send : IsSend (Vec.the_field Entry.the_row Heap.the_row ghosts).row
entries_send = Vec-send Entry.the_row entry.the_send

last_send : IsSend (Option.the_field Change.the_row).row
last_send = option.the_field_send Change.the_row change.the_send

update_send : IsSend (Option.the_field Update.the_row).row
update_send = option.the_field_send Update.the_row update.the_send

fields_send : (K : RattleType) (g : keeper.Ghosts K.Denot) → IsSend K → IsSend (inside.the_row K g)
fields_send K g s = recorded_send (inside.the_field K g).row _ _ (inside.the_type K g).to_one (struct_send (shape (inside.the_type K g)) (books.the_send, (entries_send, (last_send, (update_send, (s, (search crosses depth 20, (lending.the_field_send, tt))))))))

register_send : (K : RattleType) (g : keeper.Ghosts K.Denot) → IsSend K → IsSend (Register.the_row K g)
register_send K g s = view_send (inside.the_row K g) _ _ _ _ (fields_send K g s)

-- a seat of a lock over a register, and the lock
abbrev pub seat_row : (K : RattleType) → keeper.Ghosts K.Denot → RattleType
seat_row K g = Seat.the_row (Register.the_row K g) Call.the_row Reply.the_row Call.the_row Reply.the_row SeenState.the_row (machine.ghosts K g machine.no_dict)

abbrev pub lock_row : (K : RattleType) → keeper.Ghosts K.Denot → RattleType
lock_row K g = Shared.the_row (Register.the_row K g) Call.the_row Reply.the_row Call.the_row Reply.the_row SeenState.the_row (machine.ghosts K g machine.no_dict)

pub seat_send : (K : RattleType) (g : keeper.Ghosts K.Denot) → IsSend K → IsSend (seat_row K g)
seat_send K g s = seat.the_send (Register.the_row K g) Call.the_row Reply.the_row Call.the_row Reply.the_row SeenState.the_row (machine.ghosts K g machine.no_dict) (register_send K g s)

pub lock_sync : (K : RattleType) (g : keeper.Ghosts K.Denot) → IsSend K → IsSync (lock_row K g)
lock_sync K g s = shared.the_sync (Register.the_row K g) Call.the_row Reply.the_row Call.the_row Reply.the_row SeenState.the_row (machine.ghosts K g machine.no_dict) (register_send K g s)
