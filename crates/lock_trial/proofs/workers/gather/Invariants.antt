use Rattle.std.proofs.Common.{◌≡◌, ◌≤◌, ◌+◌, All, length, map, vec_capacity, []}
use Rattle.history_lock.specs.Replay.{own_entries}
use Rattle.lock_trial.specs.Notes.{IsReady, IsServed, all_faults_of, ended_of}
use Rattle.lock_trial.proofs.workers.gather.Given as goal

abbrev pub invariant-loop-worker : goal.invariant-loop-worker
invariant-loop-worker l = (l.seat.lock ≡ l.lock) × (l.seat.weight + length l.left.items ≡ 65536) × All (IsReady l.lock) l.left.items
    × ((l.seat.opening ≡ 0) × (l.seat.number ≡ l.fn.seat.number) × (own_entries l.seat.number l.seat.seen ≡ [])) × (l.seat.ended ≡ map ended_of l.done.items) × All (IsServed l.seat.seen) l.done.items
    × (length l.done.items + length l.left.items ≡ length l.fn.workers.items) × (length l.fn.workers.items ≤ vec_capacity l.done) × (l.seat.faults ≡ all_faults_of l.done.items) × (l.seat.base ≡ l.fn.seat.base)

abbrev pub decreases-loop-worker : goal.decreases-loop-worker
decreases-loop-worker l = length l.left.items
