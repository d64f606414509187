-- What is written is read, an input has one answer, and a line has one pair.
use Rattle.std.specs.Prelude.{◌≡◌, ℕ, List, IsTrue}
use Rattle.std.specs.List.{flat_map, AllByRecursion}
use Rattle.std.specs.Str.Lines.{lines}
use Rattle.inet_num.specs.Net.{IsAddress}
use Rattle.reverse_zone.specs.declared.record.Pair.{Pair}
use Rattle.reverse_zone.specs.Names.{fits_dns}
use Rattle.reverse_zone.specs.Records.{line_of}
use Rattle.reverse_zone.specs.Inputs.{ArePairsOf, IsFirstRefused}

-- a line can be written of the pair
pub record IsWritable (pair : Pair) : Type 0 where
  pub host : IsAddress pair.host
  pub name : IsTrue (fits_dns pair.name)

abbrev pub pair_line_of : Pair → List ℕ
pair_line_of pair = line_of pair.host pair.name

-- the lines of pairs, one after the other
abbrev pub lines_text_of : List Pair → List ℕ
lines_text_of pairs = flat_map pair_line_of pairs

-- what is written of pairs is read as these pairs, in order, and none of its lines is refused
pub record IsReadBack (pairs : List Pair) : Type 0 where
  pub same : ArePairsOf (lines (lines_text_of pairs)) pairs
  pub only : (found : List Pair) → ArePairsOf (lines (lines_text_of pairs)) found → found ≡ pairs
  pub taken : (number : ℕ) → ¬ IsFirstRefused (lines (lines_text_of pairs)) number

abbrev pub WrittenLinesAreRead : Type 0
WrittenLinesAreRead = (pairs : List Pair) → AllByRecursion IsWritable pairs → IsReadBack pairs

-- an input has one answer: its pairs, or one first refused line
pub record InputHasOneAnswer : Type 0 where
  pub pairs : (lines : List (List ℕ)) (one other : List Pair) → ArePairsOf lines one → ArePairsOf lines other → one ≡ other
  pub refusals : (lines : List (List ℕ)) (m n : ℕ) → IsFirstRefused lines m → IsFirstRefused lines n → m ≡ n
  pub apart : (lines : List (List ℕ)) (pairs : List Pair) (n : ℕ) → ArePairsOf lines pairs → ¬ IsFirstRefused lines n

-- two pairs that are written alike are one
abbrev pub LineHasOnePair : Type 0
LineHasOnePair = (one other : Pair) → IsWritable one → IsWritable other → pair_line_of one ≡ pair_line_of other → one ≡ other
