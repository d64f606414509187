-- What contracts see of the feed and of its readers, and what each call does to them.
use Rattle.std.specs.Prelude.{◌≡◌, ℕ, ◌<◌, ◌≤◌, Bool, List, length, Option, Some, option_map}
use mathlib.Core.List.{IsPrefix}
use Rattle.logbook.specs.Pages.{Book}
use Rattle.snapshot_reads.specs.declared.copies.Twin.{Twin}
use Rattle.snapshot_reads.specs.declared.copies.Known.{Known}
use Rattle.snapshot_reads.specs.declared.look.Looked.{Looked}
use Rattle.snapshot_reads.specs.declared.look.Looked.TheVariants.{Given, Behind, Memory}
use Rattle.snapshot_reads.specs.Published.{published_lists_of, answers}
use Rattle.ipam_data.specs.declared.calls.Call.{Call}
use Rattle.ipam_data.specs.declared.update.Update.{Update}
use Rattle.snapshot_rows.specs.Lists.{Lists}

-- the feed: which history it is, the lists before the first change, the changes that were published, and whether more may be
pub record FeedView (L C : Type 0) : Type 0 where
  pub book : Book
  pub opening : Option L
  pub published : List C
  pub live : Bool

-- a look: which history it is, the lists before the first change, the changes that it saw, and those that it was told
pub record LookView (L C : Type 0) : Type 0 where
  pub book : Book
  pub opening : Option L
  pub seen : List C
  pub told : List C

module _ {L C : Type 0} where
  -- the lists before the first change, if they are known
  abbrev pub opening_of : Option (Known L C) → Option L
  opening_of v = option_map (λ (k : Known L C). k.opening.value) v

  -- the writer knows the history of the copy that it shows, which counts its changes
  abbrev pub IsWriting : {K : Type 0} → Option (Known L C) → Twin K C → Type 0
  IsWriting v x = (k : Known L C) × (v ≡ Some k) × (k.seen ≡ x.seen) × (x.count ≡ length x.seen.log)

  -- a reader knows all that it saw and was told
  abbrev pub IsReading : Option (Known L C) → Book → List C → Book → List C → Type 0
  IsReading v seen_book seen told_book told = (k : Known L C) × (v ≡ Some k) × (k.seen.book ≡ seen_book) × (k.seen.book ≡ told_book) × IsPrefix seen k.seen.log × IsPrefix told k.seen.log

  -- the look is one of this feed
  pub record IsLookOf (f : FeedView L C) (l : LookView L C) : Type 0 where
    pub book : l.book ≡ f.book
    pub opening : l.opening ≡ f.opening

  -- a new look of this feed, which saw and was told all that is published
  abbrev pub IsNewLook : FeedView L C → LookView L C → Type 0
  IsNewLook f l = l ≡ record { book = f.book; opening = f.opening; seen = f.published; told = f.published }

  -- the same look, which saw and was told what it had before, and perhaps more
  pub record Grows (before now : LookView L C) : Type 0 where
    pub book : now.book ≡ before.book
    pub opening : now.opening ≡ before.opening
    pub seen : IsPrefix before.seen now.seen
    pub told : IsPrefix before.told now.told

  -- what a number found means: the look has now seen so many changes, all that it was told before among them
  pub record IsFound (n : ℕ) (before now : LookView L C) : Type 0 where
    pub number : n ≡ length now.seen
    pub told : IsPrefix before.told now.seen

-- what a copy with these lists answers, which took in so many changes
abbrev pub IsAsked : Call → ℕ → Lists → ℕ → Looked → Type 0
IsAsked call least rows count (Given reply n) = (n ≡ count) × (least ≤ n) × answers rows call reply
IsAsked call least rows count (Behind n) = (n ≡ count) × (n < least)
IsAsked call least rows count Memory = Unit {0}

-- what a read answers: the reply on each state with the lists after the n changes that were seen, if n is at least `least`;
-- n alone, if it is below; or out of memory, which does not change the look
abbrev pub IsAnswered : Call → ℕ → LookView Lists Update → LookView Lists Update → Looked → Type 0
IsAnswered call least before now (Given reply n) =
    (opening : Lists) × (now.opening ≡ Some opening) × answers (published_lists_of opening now.seen) call reply × IsFound n before now × (least ≤ n)
IsAnswered call least before now (Behind n) = IsFound n before now × (n < least)
IsAnswered call least before now Memory = now ≡ before
