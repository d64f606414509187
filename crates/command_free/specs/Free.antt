-- What the command `free` answers: the available blocks of a block given the blocks that an input's lines name, or the
-- first line that is refused. It is said over whole lines, as std's `lines` gives them: a line ends with a line feed and
-- loses a carriage return before it, and what follows the last line feed is a line if it is not empty.
use Rattle.std.specs.Prelude.{◌≡◌, ◌≢◌, ℕ, ◌+◌, ◌<◌, ◌≤◌, not, ◌&&◌, IsTrue, List, [], ◌∷◌, ◌++◌, length, codes, decimal}
use Rattle.std.specs.List.{flat_map}
use Rattle.std.specs.Str.Lines.{lines}
use Rattle.inet_num.specs.Net.{Cidr, IsBlock, IsStrictlyInside}
use Rattle.inet_num.specs.Text.{block_text_of, IsBlockText}
use Rattle.inet_num.specs.Fault.{IsHostBitsFault}
use Rattle.inet_num.specs.Free.{has_address, is_taken, available_blocks_of}
use Rattle.inet_num.specs.Fewest.{HaveJust}
use Rattle.command_free.specs.declared.free.LineFault.{LineFault}
use Rattle.command_free.specs.declared.free.LineFault.TheVariants.{NotAPrefix, HostBits, NotInside, TooManyLines}

-- how many lines an input may have
abbrev pub most_lines : ℕ
most_lines = 200000

-- the line is the text of this block; none that is longer than 64 bytes is
pub record IsLineOf (line : List ℕ) (b : Cidr) : Type 0 where
  pub short : length line ≤ 64
  pub text : IsBlockText line b

-- the line is an address with a length, and bits past it are set; without them it would name this block
pub record IsHostLine (line : List ℕ) (b : Cidr) : Type 0 where
  pub short : length line ≤ 64
  pub set : IsHostBitsFault line b

-- the line names a block strictly inside
pub record IsChildLine (within : Cidr) (line : List ℕ) (b : Cidr) : Type 0 where
  pub named : IsLineOf line b
  pub inside : IsStrictlyInside b within

-- each line that is not empty names a block strictly inside, and these are the blocks in the order of the lines
abbrev pub AreChildren : Cidr → List (List ℕ) → List Cidr → Type 0
AreChildren within [] children = children ≡ []
AreChildren within ([] ∷ rest) children = AreChildren within rest children
AreChildren within ((x ∷ xs) ∷ rest) children =
    (b : Cidr) × (others : List Cidr) × IsChildLine within (x ∷ xs) b × (children ≡ b ∷ others) × AreChildren within rest others

-- a block on its own line
abbrev pub line_text_of : Cidr → List ℕ
line_text_of b = block_text_of b ++ 10 ∷ []

-- blocks one to a line
abbrev pub lines_text_of : List Cidr → List ℕ
lines_text_of blocks = flat_map line_text_of blocks

-- the output for an input of which no line is refused
pub record IsFreeText (within : Cidr) (input output : List ℕ) : Type 0 where
  pub children : List Cidr
  pub few : length (lines input) ≤ most_lines
  pub named : AreChildren within (lines input) children
  pub text : output ≡ lines_text_of (available_blocks_of within children)

-- why the line with this number is refused
abbrev pub IsLineFault : Cidr → ℕ → List ℕ → LineFault → Type 0
IsLineFault within number line TooManyLines = most_lines < number
IsLineFault within number line NotAPrefix = (number ≤ most_lines) × (line ≢ []) × ((b : Cidr) → ¬ IsLineOf line b) × ((b : Cidr) → ¬ IsHostLine line b)
IsLineFault within number line (HostBits b) = (number ≤ most_lines) × IsHostLine line b
IsLineFault within number line NotInside = (number ≤ most_lines) × (b : Cidr) × IsLineOf line b × (¬ IsStrictlyInside b within)

-- the first line that is refused is the one with this number, counted from 1, for this fault
pub record IsRefusedLine (within : Cidr) (input : List ℕ) (number : ℕ) (fault : LineFault) : Type 0 where
  pub before : List (List ℕ)
  pub line : List ℕ
  pub after : List (List ℕ)
  pub children : List Cidr
  pub split : lines input ≡ before ++ line ∷ after
  pub number_is : number ≡ length before + 1
  pub few : length before ≤ most_lines
  pub named : AreChildren within before children
  pub refused : IsLineFault within number line fault

-- the words for a fault
abbrev pub fault_words_of : Cidr → LineFault → List ℕ
fault_words_of within NotAPrefix = codes "not a prefix"
fault_words_of within (HostBits b) = codes "host bits set, the prefix is " ++ block_text_of b
fault_words_of within NotInside = codes "not strictly inside " ++ block_text_of within
fault_words_of within TooManyLines = codes "too many lines"

-- what is printed for a refused line
abbrev pub refusal_text_of : Cidr → ℕ → LineFault → List ℕ
refusal_text_of within number fault = codes "line " ++ decimal number ++ codes ": " ++ fault_words_of within fault ++ 10 ∷ []

-- an input has one answer: one output, or one first refused line
pub record FreeHasOneAnswer : Type 0 where
  pub outputs : (within : Cidr) (input one other : List ℕ) → IsFreeText within input one → IsFreeText within input other → one ≡ other
  pub refusals : (within : Cidr) (input : List ℕ) (m n : ℕ) (f g : LineFault) → IsRefusedLine within input m f → IsRefusedLine within input n g → (m ≡ n) × (f ≡ g)
  pub apart : (within : Cidr) (input output : List ℕ) (n : ℕ) (f : LineFault) → IsFreeText within input output → ¬ IsRefusedLine within input n f

-- the available blocks are the fewest: no list of blocks that has just the addresses of a block which no other block takes is shorter
abbrev pub AvailableAreFewest : Type 0
AvailableAreFewest = (within : Cidr) (blocks cs : List Cidr) → IsBlock within
    → HaveJust within.family (λ a. IsTrue (has_address within a && not (is_taken blocks a))) cs → length (available_blocks_of within blocks) ≤ length cs
