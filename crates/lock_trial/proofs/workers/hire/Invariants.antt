use Rattle.std.proofs.Common.{◌≡◌, ◌≤◌, ◌+◌, All, length, vec_capacity, []}
use Rattle.lock_trial.specs.Notes.{IsHired}
use Rattle.lock_trial.proofs.workers.hire.Given as goal

abbrev pub invariant-loop-calls : goal.invariant-loop-calls
invariant-loop-calls l = (l.seat.lock ≡ l.lock) × (l.seat.weight + length l.workers.items ≡ 65536) × (l.seat.spare ≡ l.seat.weight) × All (IsHired l.lock) l.workers.items
    × (length l.workers.items + length l.left.items ≡ length l.fn.lists.items) × (length l.fn.lists.items ≤ vec_capacity l.workers) × ((l.seat.opening ≡ 0) × (l.seat.ended ≡ []) × (l.seat.seen ≡ []) × (l.seat.faults ≡ 0) × (l.seat.base ≡ l.fn.seat.base))

abbrev pub decreases-loop-calls : goal.decreases-loop-calls
decreases-loop-calls l = length l.left.items
