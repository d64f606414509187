-- Pools may go to another thread where their keeper may.
use denote.RattleType.{RattleType}
use denote.Builtin.{u32}
use denote.Param.Send.{IsSend, IsSync, recorded_send, recorded_sync, sendable, shr_sync, struct_send, struct_sync, view_send}
use denote.Struct.Declared.{shape}
use denote.Struct.Tuple.{Tuple, TupleAt, tuple_type, tuple_field, type_at, field_at}
use denote.Struct.Field.{shr_ref_field}
use denote.Ref.{NamedLft}
use denote.Param.{param}
use Rattle.std.proofs.Crossing as heap
use mathlib.Core.List.{List, [], ◌∷◌}
use Prim.Native.Nat.{ℕ}
use Rattle.std.proofs.Crossing.{Vec-send, crosses}
use Rattle.std.proofs.option.Option.TheSendSync as option
use Rattle.std.specs.contracts.vec.Vec as Vec
use Rattle.std.specs.contracts.alloc.Global as Heap
use Rattle.std.specs.contracts.impls.GlobalAllocator.TheImpl.{ghosts}
use Rattle.pool_keeper.specs.declared.keeper.PoolKeeper as keeper
use Rattle.pool_register.specs.contracts.pools.Pools as Pools
use Rattle.pool_register.specs.contracts.pools.Pools.TheInside as inside
use Rattle.pool_register.proofs.books.Books.TheSendSync as books
use Rattle.machine_workers.specs.contracts.workers.Worker as Worker
use Rattle.number_pools.specs.contracts.calls.PoolCall as Call
use Rattle.number_pools.proofs.calls.PoolCall.TheSendSync as call
use Rattle.number_pools.specs.contracts.calls.PoolReply as Reply
use Rattle.pool_register.specs.contracts.machine.SeenPools as SeenPools
use Rattle.pool_register.specs.contracts.machine.PoolsMachine.TheImpl as machine
use Rattle.history_lock.specs.contracts.lock.Seat as Seat
use Rattle.history_lock.specs.contracts.lock.Shared as Shared
use Rattle.history_lock.proofs.lock.Seat.TheSendSync as seat
use Rattle.history_lock.proofs.lock.Shared.TheSendSync as shared

entry_send : IsSend (Tuple (u32 ∷ Call.the_row ∷ []))
entry_send =
    let t = tuple_type (u32 ∷ Call.the_row ∷ []) in
    recorded_send (tuple_field (u32 ∷ Call.the_row ∷ [])).row _ _ t.to_one (struct_send (shape t) (search sendable, (call.the_send, tt)))

entries_send : IsSend (Vec.the_field (Tuple (u32 ∷ Call.the_row ∷ [])) Heap.the_row ghosts).row
entries_send = Vec-send (Tuple (u32 ∷ Call.the_row ∷ [])) entry_send

fields_send : (K : RattleType) (g : keeper.Ghosts K.Denot) → IsSend K → IsSend (inside.the_row K g)
fields_send K g s = recorded_send (inside.the_field K g).row _ _ (inside.the_type K g).to_one (struct_send (shape (inside.the_type K g)) (books.the_send, (entries_send, (s, (search crosses depth 20, tt)))))

pub pools_send : (K : RattleType) (g : keeper.Ghosts K.Denot) → IsSend K → IsSend (Pools.the_row K g)
pools_send K g s = view_send (inside.the_row K g) _ _ _ _ (fields_send K g s)

seat_send : (K : RattleType) (g : keeper.Ghosts K.Denot) → IsSend K → IsSend (Seat.the_row (Pools.the_row K g) Call.the_row Reply.the_row Call.the_row Reply.the_row SeenPools.the_row (machine.ghosts K g machine.no_dict))
seat_send K g s = seat.the_send (Pools.the_row K g) Call.the_row Reply.the_row Call.the_row Reply.the_row SeenPools.the_row (machine.ghosts K g machine.no_dict) (pools_send K g s)

-- so may a worker with a seat of a lock over such pools
pub worker_send : (K A : RattleType) (g : keeper.Ghosts K.Denot) → IsSend K → IsSend A
    → IsSend (Worker.the_row (Pools.the_row K g) A Call.the_row Reply.the_row Call.the_row Reply.the_row SeenPools.the_row (machine.ghosts K g machine.no_dict))
worker_send K A g s a =
    recorded_send (Worker.the_field (Pools.the_row K g) A Call.the_row Reply.the_row Call.the_row Reply.the_row SeenPools.the_row (machine.ghosts K g machine.no_dict)).row _ _
    (Worker.the_type (Pools.the_row K g) A Call.the_row Reply.the_row Call.the_row Reply.the_row SeenPools.the_row (machine.ghosts K g machine.no_dict)).to_one
    (struct_send (shape (Worker.the_type (Pools.the_row K g) A Call.the_row Reply.the_row Call.the_row Reply.the_row SeenPools.the_row (machine.ghosts K g machine.no_dict))) (option.the_field_send _ (seat_send K g s), (a, tt)))

-- and threads may share the lock
pub lock_sync : (K : RattleType) (g : keeper.Ghosts K.Denot) → IsSend K → IsSync (Shared.the_row (Pools.the_row K g) Call.the_row Reply.the_row Call.the_row Reply.the_row SeenPools.the_row (machine.ghosts K g machine.no_dict))
lock_sync K g s = shared.the_sync (Pools.the_row K g) Call.the_row Reply.the_row Call.the_row Reply.the_row SeenPools.the_row (machine.ghosts K g machine.no_dict) (pools_send K g s)

-- what the workers' closure borrows: the runtime, the allocator, the lock and the gate
abbrev pub borrowed : (R K G : RattleType) → keeper.Ghosts K.Denot → NamedLft → NamedLft → NamedLft → NamedLft → List RattleType
borrowed R K G g a b d e =
    (shr_ref_field a (param 0 R) tt).row ∷ (shr_ref_field b Heap.the_row tt).row
    ∷ (shr_ref_field d (Shared.the_row (Pools.the_row K g) Call.the_row Reply.the_row Call.the_row Reply.the_row SeenPools.the_row (machine.ghosts K g machine.no_dict)) tt).row
    ∷ (shr_ref_field e (param 3 G) tt).row ∷ []

pub closure_sync : (R K G : RattleType) (g : keeper.Ghosts K.Denot) (ν : List ℕ) (a b d e : NamedLft) → IsSync (param 0 R) → IsSend K → IsSync (param 3 G) → IsSync (TupleAt ν (borrowed R K G g a b d e))
closure_sync R K G g ν a b d e r s y =
    let t = type_at ν (borrowed R K G g a b d e) in
    recorded_sync (field_at ν (borrowed R K G g a b d e)).row _ _ t.to_one
    (struct_sync (shape t) (shr_sync _ _ _ r, (shr_sync _ _ _ heap.sync, (shr_sync _ _ _ (lock_sync K g s), (shr_sync _ _ _ y, tt)))))
