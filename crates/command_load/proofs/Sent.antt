-- A worker may go to another thread where the keeper may.
use denote.RattleType.{RattleType}
use denote.Param.Send.{IsSend, IsSync, recorded_send, recorded_sync, shr_sync, struct_send, struct_sync}
use denote.Struct.Declared.{shape}
use denote.Struct.Tuple.{TupleAt, type_at, field_at}
use denote.Struct.Field.{shr_ref_field}
use denote.Ref.{NamedLft}
use denote.Param.{param}
use Rattle.std.proofs.Crossing as heap
use mathlib.Core.List.{List, [], ◌∷◌}
use Prim.Native.Nat.{ℕ}
use Rattle.std.proofs.Crossing.{crosses}
use Rattle.std.proofs.option.Option.TheSendSync as option
use Rattle.std.specs.contracts.alloc.Global as Heap
use Rattle.ipam_keeper.specs.declared.keeper.Keeper as keeper
use Rattle.register_core.proofs.Sent.{lock_row, lock_sync, seat_send}
use Rattle.command_load.specs.contracts.workers.Claimer as Claimer
use Rattle.command_load.proofs.tally.Tally.TheSendSync as tally

-- a worker with a seat of a lock over a register
pub claimer_send : (K : RattleType) (g : keeper.Ghosts K.Denot) → IsSend K → IsSend (Claimer.the_row K g)
claimer_send K g s = recorded_send (Claimer.the_field K g).row _ _ (Claimer.the_type K g).to_one (struct_send (shape (Claimer.the_type K g)) (option.the_field_send _ (seat_send K g s), (search crosses depth 20, (tally.the_field_send, tt))))

-- what the workers' closure borrows: the runtime, the allocator and the lock
abbrev pub borrowed : (R K : RattleType) → keeper.Ghosts K.Denot → NamedLft → NamedLft → NamedLft → List RattleType
borrowed R K g a b d = (shr_ref_field a (param 0 R) tt).row ∷ (shr_ref_field b Heap.the_row tt).row ∷ (shr_ref_field d (lock_row K g) tt).row ∷ []

pub closure_sync : (R K : RattleType) (g : keeper.Ghosts K.Denot) (ν : List ℕ) (a b d : NamedLft) → IsSync (param 0 R) → IsSend K → IsSync (TupleAt ν (borrowed R K g a b d))
closure_sync R K g ν a b d r s =
    let t = type_at ν (borrowed R K g a b d) in
    recorded_sync (field_at ν (borrowed R K g a b d)).row _ _ t.to_one
    (struct_sync (shape t) (shr_sync _ _ _ r, (shr_sync _ _ _ heap.sync, (shr_sync _ _ _ (lock_sync K g s), tt))))
