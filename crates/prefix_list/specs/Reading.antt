-- How a prefix list is read: which blocks its lines name, or which is the first line that is not of the style. A line feed ends each line, and
-- the last may lack it. A carriage return belongs to its line. Empty lines are skipped.
use Rattle.std.specs.Prelude.{◌≡◌, ◌≢◌, ℕ, ◌+◌, ◌<◌, ◌≤◌, ◌==◌, Bool, List, [], ◌∷◌, ◌++◌, length}
use Rattle.std.specs.List.{slice_split, AllByRecursion}
use Rattle.inet_num.specs.declared.Family.{Family}
use Rattle.inet_num.specs.Net.{Cidr, IsBlock}
use Rattle.inet_num.specs.Text.{IsBlockText}
use Rattle.list_name.specs.Names.{IsListName}
use Rattle.prefix_list.specs.declared.styles.Style.{Style}
use Rattle.prefix_list.specs.declared.styles.Style.TheVariants.{Plain, Ios, Junos}
use Rattle.prefix_list.specs.Lists.{AreOf}
use Rattle.prefix_list.specs.Styles.{front_of, number_of, list_text_of}

abbrev pub is_feed : ℕ → Bool
is_feed b = b == 10

-- the parts between line feeds; after the last line feed there is one more, which is empty if the last line has its line feed
abbrev pub lines_of : List ℕ → List (List ℕ)
lines_of bytes = slice_split is_feed bytes

-- ---- one line

-- the name can be on a line of the style
abbrev pub CanName : Style → List ℕ → Type 0
CanName Plain name = Unit {0}
CanName Ios name = IsListName name
CanName Junos name = IsListName name

-- the line is this front, any number of at most ten digits if the style has one, and a text of this block, which is one of the family
pub record IsFormed (style : Style) (front : List ℕ) (family : Family) (line : List ℕ) (b : Cidr) : Type 0 where
  pub number : ℕ
  pub text : List ℕ
  pub short : number < 10000000000
  pub form : line ≡ front ++ (number_of style number ++ text)
  pub block : IsBlockText text b
  pub family_is : b.family ≡ family

-- the line is one of the style, with this name, and names this block
pub record IsLine (style : Style) (name : List ℕ) (family : Family) (line : List ℕ) (b : Cidr) : Type 0 where
  pub named : CanName style name
  pub formed : IsFormed style (front_of style name family) family line b

-- ---- all lines

-- each line that is not empty names a block, and these are the blocks, in order
abbrev pub LinesName : (List ℕ → Cidr → Type 0) → List (List ℕ) → List Cidr → Type 0
LinesName IsOne [] blocks = blocks ≡ []
LinesName IsOne ([] ∷ lines) blocks = LinesName IsOne lines blocks
LinesName IsOne ((x ∷ xs) ∷ lines) blocks =
    (b : Cidr) × (others : List Cidr) × IsOne (x ∷ xs) b × (blocks ≡ b ∷ others) × LinesName IsOne lines others

-- the first line that is not empty and names no block has this number, counted from 1
pub record IsFirstWithout (IsOne : List ℕ → Cidr → Type 0) (bytes : List ℕ) (number : ℕ) : Type 0 where
  pub before : List (List ℕ)
  pub line : List ℕ
  pub after : List (List ℕ)
  pub blocks : List Cidr
  pub split : lines_of bytes ≡ before ++ line ∷ after
  pub number_is : number ≡ length before + 1
  pub named : LinesName IsOne before blocks
  pub written : line ≢ []
  pub none : (b : Cidr) → ¬ IsOne line b

-- the bytes are the text of a list of these blocks, in the style and with the name
abbrev pub IsList : Style → List ℕ → Family → List ℕ → List Cidr → Type 0
IsList style name family bytes blocks = LinesName (IsLine style name family) (lines_of bytes) blocks

-- the first line that is not of the style has this number
abbrev pub IsRefused : Style → List ℕ → Family → List ℕ → ℕ → Type 0
IsRefused style name family bytes number = IsFirstWithout (IsLine style name family) bytes number

-- ---- laws

-- bytes have one reading: one list of blocks, or one first line that is refused
pub record ReadingIsOne : Type 0 where
  pub lists : (style : Style) (name : List ℕ) (family : Family) (bytes : List ℕ) (bs cs : List Cidr)
      → IsList style name family bytes bs → IsList style name family bytes cs → bs ≡ cs
  pub refusals : (style : Style) (name : List ℕ) (family : Family) (bytes : List ℕ) (m n : ℕ)
      → IsRefused style name family bytes m → IsRefused style name family bytes n → m ≡ n
  pub apart : (style : Style) (name : List ℕ) (family : Family) (bytes : List ℕ) (bs : List Cidr) (n : ℕ)
      → IsList style name family bytes bs → ¬ IsRefused style name family bytes n

-- the style has numbers of at most ten digits for so many blocks
abbrev pub IsCounted : Style → List Cidr → Type 0
IsCounted Plain blocks = Unit {0}
IsCounted Ios blocks = length blocks ≤ 1999999999
IsCounted Junos blocks = Unit {0}

-- what is written of blocks is read as those blocks, in order
abbrev pub WrittenIsRead : Type 0
WrittenIsRead = (style : Style) (name : List ℕ) (family : Family) (blocks : List Cidr) → IsListName name → AllByRecursion IsBlock blocks
    → AreOf family blocks → IsCounted style blocks → IsList style name family (list_text_of style name blocks) blocks
