use Rattle.std.proofs.Common.{◌≡◌, ◌≤◌, ◌+◌, ◌-◌, All, length, true}
use Rattle.std.specs.Prelude.{sum_by}
use mathlib.Core.List.{IsPrefix}
use Rattle.history_lock.specs.Replay.{own_entries}
use Rattle.command_load.specs.Dismissed.{HasDismissed}
use Rattle.command_load.specs.Hired.{AreNumberedDown, IsDone, top_number}
use Rattle.command_load.proofs.workers.dismiss.Given as goal

abbrev pub invariant-loop-claimer : goal.invariant-loop-claimer
invariant-loop-claimer g l =
    record {
      lock : l.seat.lock ≡ l.shared;
      weight : l.seat.weight + length l.left.items ≡ 65536;
      same : (l.seat.number ≡ l.fn.seat.number) × (l.seat.opening ≡ l.fn.seat.opening);
      own : own_entries l.fn.seat.number l.seat.seen ≡ own_entries l.fn.seat.number l.fn.seat.seen;
      seen : IsPrefix l.fn.seat.seen l.seat.seen;
      done : All (IsDone l.shared) l.left.items;
      numbers : AreNumberedDown top_number l.left.items;
      less : length l.left.items ≤ length l.fn.claimers.items;
      dismissed : HasDismissed l.whole (top_number + 1 - length l.fn.claimers.items) (length l.fn.claimers.items - length l.left.items) l.seat l.all;
      few : l.all.claimed + sum_by (λ w. w.share) l.left.items ≤ sum_by (λ w. w.share) l.fn.claimers.items;
      exact : l.whole ≡ true → l.all.claimed + sum_by (λ w. w.share) l.left.items ≡ sum_by (λ w. w.share) l.fn.claimers.items;
    }

abbrev pub decreases-loop-claimer : goal.decreases-loop-claimer
decreases-loop-claimer g l = length l.left.items
