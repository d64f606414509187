-- A feed that follows a register: its published changes, one after another, did to the lists what the first accepted changes did to the
-- register.
use Rattle.std.specs.Prelude.{◌≡◌, ℕ, ◌<◌, ◌≤◌, Bool, true, false, List, [], ◌∷◌, ◌++◌, Some, length, take}
use Rattle.history_lock.specs.Replay.{replay}
use Rattle.ipam_data.specs.declared.calls.Call.{Call}
use Rattle.ipam_data.specs.declared.replies.Reply.{Reply}
use Rattle.ipam_data.specs.declared.update.Update.{Update}
use Rattle.ipam_data.specs.State.{State}
use Rattle.ipam_data.specs.Steps.{plain_step}
use Rattle.snapshot_reads.specs.Published.{answers, published_lists_of}
use Rattle.snapshot_reads.specs.Seen.{FeedView}
use Rattle.snapshot_rows.specs.Lists.{AreAlike, Lists, lists_of}

-- a change was published that does to each lists what the update does
abbrev pub HasPublished : Update → List Update → List Update → Type 0
HasPublished update old new = (change : Update) × (new ≡ old ++ change ∷ []) × AreAlike update change

-- after each number of published changes the lists are those of the register after as many accepted ones
pub record IsFollowing (first : State) (log : List (ℕ × Call)) (published : List Update) : Type 0 where
  pub few : length published ≤ length log
  pub lists : (n : ℕ) → n ≤ length published → published_lists_of (lists_of first) (take n published) ≡ lists_of (replay plain_step first (take n log))

-- the feed follows a register that was opened in this state and accepted these changes
pub record IsFeedOf (first : State) (log : List (ℕ × Call)) (feed : FeedView Lists Update) : Type 0 where
  pub opening : feed.opening ≡ Some (lists_of first)
  pub changes : IsFollowing first log feed.published

-- it shows all of the register's changes, and may show more
pub record IsShown (first : State) (log : List (ℕ × Call)) (feed : FeedView Lists Update) : Type 0 where
  pub follows : IsFeedOf first log feed
  pub live : feed.live ≡ true
  pub count : length feed.published ≡ length log

-- a feed that follows the register: if it is whole it shows all of its changes, and else it lacks some
pub record IsKept (whole : Bool) (first : State) (log : List (ℕ × Call)) (feed : FeedView Lists Update) : Type 0 where
  pub follows : IsFeedOf first log feed
  pub shown : whole ≡ true → IsShown first log feed
  pub lacks : whole ≡ false → length feed.published < length log

-- a reply to readers after n published changes is the register's after its first n accepted changes
abbrev pub NumbersAreStates : Type 0
NumbersAreStates = (first : State) (log : List (ℕ × Call)) (published : List Update) (n : ℕ) (call : Call) (reply : Reply)
    → IsFollowing first log published → n ≤ length published
    → answers (published_lists_of (lists_of first) (take n published)) call reply
    → plain_step (replay plain_step first (take n log)) call ≡ ((replay plain_step first (take n log)), reply)
