-- What is known of the claims of all workers: once they were joined, and once the lock was closed.
use Rattle.std.specs.Prelude.{◌≡◌, ◌+◌, ◌-◌, ℕ, true, false}
use mathlib.Core.List.{IsPrefix}
use Rattle.block_space.specs.Usable.{host_room}
use Rattle.history_lock.specs.Replay.{own_entries, replay}
use Rattle.inet_num.specs.Count.{percent_of}
use Rattle.ipam_data.specs.declared.replies.Reply.TheVariants.{Percent}
use Rattle.ipam_data.specs.State.{empty_state}
use Rattle.ipam_data.specs.Steps.{plain_step}
use Rattle.command_load.specs.Claims.{figure_call}
use Rattle.command_load.specs.LoadText.{load_address, load_block}
use Rattle.command_load.specs.declared.load_outcome.LoadOutcome.{LoadOutcome}
use Rattle.command_load.specs.Dismissed.{HasDismissed}
use Rattle.command_load.specs.Hired.{Caller, top_number}

-- so many workers made so many claims, all of them, and were joined: the first seat was v and is w, and knows what they did
pub record HasAllClaimed (count workers : ℕ) (v w : Caller) (came : LoadOutcome) : Type 0 where
  pub number : w.number ≡ 0
  pub opening : w.opening.state ≡ empty_state true
  pub own : own_entries 0 w.seen ≡ own_entries 0 v.seen
  pub seen : IsPrefix v.seen w.seen
  pub claimed : came.tally.claimed ≡ count
  pub dismissed : HasDismissed true (top_number + 1 - workers) workers w came.tally
  -- the percentage is the plain register's after all that the seat has seen
  pub percent : (plain_step (replay plain_step (empty_state true) w.seen) figure_call).1 ≡ Percent came.percent

-- so many claims were made and nothing else but the prefix, one change each: they got the addresses from the first to that of this number
pub record IsLoaded (count : ℕ) (came : LoadOutcome) (entries : ℕ) : Type 0 where
  pub claimed : came.tally.claimed ≡ count
  pub first : came.tally.least ≡ (load_address 1).value
  pub last : came.tally.greatest ≡ (load_address count).value
  pub percent : came.percent ≡ percent_of count (host_room (load_block count) false)
  pub many : entries ≡ count + 1
