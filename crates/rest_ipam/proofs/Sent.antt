-- A worker over a register may go to another thread where the keeper and the lane may.
use denote.RattleType.{RattleType}
use denote.Param.Send.{IsSend, IsSync, recorded_send, recorded_sync, shr_sync, struct_send, struct_sync}
use denote.Struct.Declared.{shape}
use denote.Struct.Tuple.{TupleAt, type_at, field_at}
use denote.Struct.Field.{shr_ref_field}
use denote.Ref.{NamedLft}
use denote.Param.{param}
use mathlib.Core.List.{List, [], ◌∷◌}
use Prim.Native.Nat.{ℕ}
use Rattle.std.proofs.Crossing as heap
use Rattle.std.proofs.option.Option.TheSendSync as option
use Rattle.std.specs.contracts.alloc.Global as Heap
use Rattle.ipam_data.specs.contracts.calls.Call as Call
use Rattle.ipam_data.specs.contracts.replies.Reply as Reply
use Rattle.ipam_keeper.specs.declared.keeper.Keeper as keeper
use Rattle.machine_workers.specs.contracts.workers.Worker as Worker
use Rattle.register_core.specs.contracts.machine.SeenState as SeenState
use Rattle.register_core.specs.contracts.machine.RegisterMachine.TheImpl as machine
use Rattle.register_core.specs.contracts.register.Register as Register
use Rattle.register_core.proofs.Sent.{lock_row, lock_sync, seat_send}

-- a worker with a seat of a lock over such a register
abbrev pub worker_row : (K A : RattleType) → keeper.Ghosts K.Denot → RattleType
worker_row K A g = Worker.the_row (Register.the_row K g) A Call.the_row Reply.the_row Call.the_row Reply.the_row SeenState.the_row (machine.ghosts K g machine.no_dict)

pub worker_send : (K A : RattleType) (g : keeper.Ghosts K.Denot) → IsSend K → IsSend A → IsSend (worker_row K A g)
worker_send K A g s a =
    let t = Worker.the_type (Register.the_row K g) A Call.the_row Reply.the_row Call.the_row Reply.the_row SeenState.the_row (machine.ghosts K g machine.no_dict) in
    recorded_send (Worker.the_field (Register.the_row K g) A Call.the_row Reply.the_row Call.the_row Reply.the_row SeenState.the_row (machine.ghosts K g machine.no_dict)).row _ _ t.to_one
    (struct_send (shape t) (option.the_field_send _ (seat_send K g s), (a, tt)))

-- what the workers' closure borrows: the runtime, the allocator, the lock and the gate
abbrev pub borrowed : (R K G : RattleType) → keeper.Ghosts K.Denot → NamedLft → NamedLft → NamedLft → NamedLft → List RattleType
borrowed R K G g a b d e =
    (shr_ref_field a (param 0 R) tt).row ∷ (shr_ref_field b Heap.the_row tt).row ∷ (shr_ref_field d (lock_row K g) tt).row ∷ (shr_ref_field e (param 3 G) tt).row ∷ []

pub closure_sync : (R K G : RattleType) (g : keeper.Ghosts K.Denot) (ν : List ℕ) (a b d e : NamedLft) → IsSync (param 0 R) → IsSend K → IsSync (param 3 G) → IsSync (TupleAt ν (borrowed R K G g a b d e))
closure_sync R K G g ν a b d e r s y =
    let t = type_at ν (borrowed R K G g a b d e) in
    recorded_sync (field_at ν (borrowed R K G g a b d e)).row _ _ t.to_one
    (struct_sync (shape t) (shr_sync _ _ _ r, (shr_sync _ _ _ heap.sync, (shr_sync _ _ _ (lock_sync K g s), (shr_sync _ _ _ y, tt)))))
