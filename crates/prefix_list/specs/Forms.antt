-- What the lines of one list have in common, and what becomes of one line.
use Rattle.std.specs.Prelude.{◌≡◌, ◌≢◌, ℕ, ◌⊎◌, ◌↔◌, ◌==◌, ◌&&◌, not, nat_le, nat_lt, Bool, IsTrue, Result, Ok, Err, List, [], ◌∷◌, ◌++◌, length, slice_index}
use Rattle.std.specs.List.{list_all}
use Rattle.std.specs.Char.{is_ascii_digit}
use Rattle.inet_num.specs.declared.Family.{Family}
use Rattle.inet_num.specs.Net.{Cidr}
use Rattle.prefix_list.specs.declared.styles.Style.{Style}
use Rattle.prefix_list.specs.declared.reading.Form.{Form}
use Rattle.prefix_list.specs.declared.reading.ListFault.{ListFault}
use Rattle.prefix_list.specs.declared.reading.ListFault.TheVariants.{Line, Memory}
use Rattle.prefix_list.specs.Styles.{front_of}
use Rattle.prefix_list.specs.Reading.{CanName, IsFormed, LinesName, IsFirstWithout, lines_of}

abbrev pub is_space : ℕ → Bool
is_space b = b == 32

-- one to ten digits, without a leading zero
abbrev pub is_number : List ℕ → Bool
is_number text =
    nat_le 1 (length text) && nat_le (length text) 10 && not (nat_lt 1 (length text) && slice_index text 0 == 48) && list_all is_ascii_digit text

-- the line has the form, and names this block
pub record Matches (form : Form) (line : List ℕ) (b : Cidr) : Type 0 where
  pub named : IsTrue form.named
  pub formed : IsFormed form.style form.front.items form.family line b

-- the form of a list with this name
pub record IsFormOf (style : Style) (name : List ℕ) (family : Family) (form : Form) : Type 0 where
  pub style_is : form.style ≡ style
  pub family_is : form.family ≡ family
  pub named_is : IsTrue form.named ↔ CanName style name
  pub front_is : form.front.items ≡ front_of style name family

-- what the line with this number makes of the blocks of the lines before it
abbrev pub Takes : Form → ℕ → List ℕ → List Cidr → List Cidr → Result (Unit {0}) ListFault → Type 0
Takes form number line old new (Ok _) =
    ((line ≡ []) × (new ≡ old)) ⊎ ((line ≢ []) × (b : Cidr) × Matches form line b × (new ≡ old ++ b ∷ []))
Takes form number line old new (Err (Line n)) = (n ≡ number) × (line ≢ []) × ((b : Cidr) → ¬ Matches form line b)
Takes form number line old new (Err Memory) = Unit {0}

-- why the bytes are not read
abbrev pub IsFault : (List ℕ → Cidr → Type 0) → List ℕ → ListFault → Type 0
IsFault IsOne bytes (Line n) = IsFirstWithout IsOne bytes n
IsFault IsOne bytes Memory = Unit {0}
