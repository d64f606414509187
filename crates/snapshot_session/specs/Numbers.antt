-- The numbers of changes that a reader gets, over one connection or several.
use Rattle.std.specs.Prelude.{◌≤◌, ℕ, List, [], ◌∷◌, length, Option, Some, None}
use Rattle.http_session.specs.Answers.{NamedNumber}
use Rattle.http_session.specs.Requests.{Item}
use Rattle.http_session.specs.Talk.{Answer, Run}
use Rattle.snapshot_session.specs.Reads.{Seen, answers_read}

-- the number that an answer gives, or the one from before, if it gives none
abbrev pub number_told : ℕ → Option NamedNumber → ℕ
number_told before None = before
number_told before (Some field) = field.number

-- no number that it gets is below the one before it, and none is above the last
abbrev pub NeverFall : ℕ → List Answer → ℕ → Type 0
NeverFall before [] last = before ≤ last
NeverFall before (answer ∷ answers) last = (before ≤ number_told before answer.field) × NeverFall (number_told before answer.field) answers last

-- no number that it gets is below this one
abbrev pub NoneBelow : ℕ → List Answer → Type 0
NoneBelow least [] = Unit {0}
NoneBelow least (answer ∷ answers) = (least ≤ number_told least answer.field) × NoneBelow least answers

-- over the requests of one look the numbers never fall: none is below that of the changes that it saw before, or was told before, and none
-- above that of those that it has seen now
pub record AreInOrder (before now : Seen) (answers : List Answer) : Type 0 where
  pub seen : NeverFall (length before.seen) answers (length now.seen)
  pub told : NoneBelow (length before.told) answers

abbrev pub NumbersNeverFall : Type 0
NumbersNeverFall = (before now : Seen) (items : List Item) (answers : List Answer) → Run answers_read before items answers now → AreInOrder before now answers
