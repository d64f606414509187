-- What an input says, over whole lines as std's `lines` gives them: a line ends with a line feed and loses a carriage return before
-- it, and what follows the last line feed is a line if it is not empty.
use Rattle.std.specs.Prelude.{◌≡◌, ℕ, ◌+◌, false, List, ◌∷◌, ◌++◌, length, not}
use Rattle.std.specs.List.{filter, AllZip}
use Rattle.reverse_zone.specs.declared.record.Pair.{Pair}
use Rattle.reverse_zone.specs.Records.{IsRecordOf, is_skipped}

-- each line that is not skipped is the record of a pair, and these are the pairs in the order of the lines
abbrev pub ArePairsOf : List (List ℕ) → List Pair → Type 0
ArePairsOf lines pairs = AllZip IsRecordOf (filter (λ line. not (is_skipped line)) lines) pairs

-- the line is neither skipped nor the record of a pair
pub record IsRefused (line : List ℕ) : Type 0 where
  pub kept : is_skipped line ≡ false
  pub none : (pair : Pair) → ¬ IsRecordOf line pair

-- the line with this number, counted from 1, is the first that is refused: the lines before it give pairs
pub record IsFirstRefused (lines : List (List ℕ)) (number : ℕ) : Type 0 where
  pub before : List (List ℕ)
  pub line : List ℕ
  pub after : List (List ℕ)
  pub pairs : List Pair
  pub split : lines ≡ before ++ line ∷ after
  pub number_is : number ≡ length before + 1
  pub read : ArePairsOf before pairs
  pub refused : IsRefused line
