use Rattle.std.proofs.Common.{◌≡◌, ◌≤◌, ◌+◌, [], All, length, vec_capacity, true}
use Rattle.std.specs.Prelude.{sum_by}
use Rattle.ipam_data.specs.State.{empty_state}
use Rattle.command_load.specs.Hired.{AreNumberedDown, IsHired, top_number}
use Rattle.command_load.proofs.workers.hire.Given as goal

abbrev pub invariant-loop-nth : goal.invariant-loop-nth
invariant-loop-nth g l =
    record {
      lock : l.seat.lock ≡ l.shared;
      weight : l.seat.weight + length l.claimers.items ≡ 65536;
      spare : l.seat.spare ≡ l.seat.weight;
      first : (l.seat.number ≡ 0) × (l.seat.ended ≡ []) × (l.seat.opening.state ≡ empty_state true) × (l.seat.seen ≡ l.fn.seat.seen);
      hired : All (IsHired l.shared) l.claimers.items;
      numbers : AreNumberedDown top_number l.claimers.items;
      shares : sum_by (λ w. w.share) l.claimers.items + l.left ≡ l.count;
      last : l.nth ≡ l.workers → l.left ≡ 0;
      count : length l.claimers.items ≡ l.nth;
      room : l.workers ≤ vec_capacity l.claimers;
    }
