-- How far the lines of an input have come after some of its bytes, as the reading of `free` keeps it.
use Rattle.std.specs.Prelude.{◌≡◌, ◌≢◌, ℕ, ◌<◌, ◌≤◌, ◌==◌, Bool, false, MatchBool, Option, Some, None, Result, Ok, Err, List, [], ◌∷◌, ◌++◌, length, map, All, IfSome, Vec}
use Rattle.std.specs.declared.alloc.Global.{Global}
use Rattle.std.specs.List.{flat_map, AllByRecursion}
use Rattle.std.specs.Str.Lines.{lines, strip_carriage_return}
use Rattle.std.specs.Io.KnownBytes.{Consumes, IsAtEnd}
use Rattle.inet_num.specs.Net.{Cidr}
use Rattle.ipam_edge.specs.Faults.{Rose}
use Rattle.inet_num.specs.declared.text.TextFault.{TextFault}
use Rattle.inet_num.specs.declared.text.TextFault.TheVariants as text
use Rattle.command_free.specs.declared.free.LineFault.{LineFault}
use Rattle.command_free.specs.declared.free.LineFault.TheVariants as line
use Rattle.command_free.specs.declared.free.Stop.{Stop}
use Rattle.command_free.specs.declared.free.Stop.TheVariants as stop
use Rattle.command_free.specs.declared.lines.Lines.{Lines}
use Rattle.command_free.specs.Free.{most_lines, IsChildLine, AreChildren, IsLineFault, IsRefusedLine}

-- why a line is refused whose text has this fault as a block's
abbrev pub line_fault_of : TextFault → LineFault
line_fault_of (text.HostBits b) = line.HostBits b
line_fault_of text.Shape = line.NotAPrefix
line_fault_of text.Octet = line.NotAPrefix
line_fault_of text.Group = line.NotAPrefix
line_fault_of text.Length = line.NotAPrefix

-- no line feed is in the bytes
abbrev pub HasNoFeed : List ℕ → Type 0
HasNoFeed bytes = All (λ b. (b == 10) ≡ false) bytes

-- a line as it is in the input, with the line feed that ends it
abbrev pub fed : List ℕ → List ℕ
fed raw = raw ++ 10 ∷ []

-- what is kept of a line: its bytes, or some and that it is longer than 65
abbrev pub IsKept : List ℕ → List ℕ → Bool → Type 0
IsKept line kept long = MatchBool long ((65 < length line) × (0 < length kept)) (kept ≡ line)

-- what is known of a line that has ended: its bytes, or that it is longer than 64
abbrev pub IsEnded : List ℕ → List ℕ → Bool → Type 0
IsEnded line kept long = MatchBool long (64 < length line) (kept ≡ line)

-- the bytes so far are lines that have ended, none refused, and the beginning of the next one
pub record IsReading (within : Cidr) (bytes : List ℕ) (state : Lines) : Type 0 where
  pub ended : List (List ℕ)
  pub next : List ℕ
  pub bytes_are : bytes ≡ flat_map fed ended ++ next
  pub ended_free : AllByRecursion HasNoFeed ended
  pub next_free : HasNoFeed next
  pub named : AreChildren within (map strip_carriage_return ended) state.children.items
  pub count : state.ended ≡ length ended
  pub few : length ended ≤ most_lines
  pub kept : IsKept next state.line.items state.long

-- the line names this block, or is empty and names none
abbrev pub Names : Cidr → List ℕ → Option Cidr → Type 0
Names within line None = line ≡ []
Names within line (Some b) = (line ≢ []) × IsChildLine within line b

-- the line with this number is read so
abbrev pub IsVerdict : Cidr → ℕ → List ℕ → Result (Option Cidr) LineFault → Type 0
IsVerdict within number line (Ok found) = (number ≤ most_lines) × Names within line found
IsVerdict within number line (Err fault) = IsLineFault within number line fault

-- a stop at a line that is refused whatever follows these bytes
abbrev pub StopsWhatever : Cidr → List ℕ → Stop → Type 0
StopsWhatever within bytes (stop.Line number fault) = (more : List ℕ) → IsRefusedLine within (bytes ++ more) number fault
StopsWhatever within bytes stop.Unread = ⊥
StopsWhatever within bytes stop.Unwritten = ⊥
StopsWhatever within bytes stop.Memory = Unit {0}

-- a stop at a line that is refused if nothing follows these bytes
abbrev pub StopsAtEnd : Cidr → List ℕ → Stop → Type 0
StopsAtEnd within bytes (stop.Line number fault) = IsRefusedLine within bytes number fault
StopsAtEnd within bytes stop.Unread = ⊥
StopsAtEnd within bytes stop.Unwritten = ⊥
StopsAtEnd within bytes stop.Memory = Unit {0}

-- all lines of the bytes were read, and name these blocks
pub record HasRead (within : Cidr) (bytes : List ℕ) (children : List Cidr) : Type 0 where
  pub few : length (lines bytes) ≤ most_lines
  pub named : AreChildren within (lines bytes) children

-- the input was read to its end, and its lines name these blocks; or it stopped for a cause
abbrev pub IsRead : Cidr → Option (List ℕ) → Option (List ℕ) → ℕ → ℕ → Result (Vec Cidr Global) Stop → Type 0
IsRead within left_old left_new old new (Ok children) = (bytes : List ℕ) × Consumes left_old left_new bytes × IsAtEnd left_new × HasRead within bytes children.items
IsRead within left_old left_new old new (Err (stop.Line number fault)) = IfSome left_old (λ bytes. IsRefusedLine within bytes number fault)
IsRead within left_old left_new old new (Err stop.Unread) = Rose old new
IsRead within left_old left_new old new (Err stop.Unwritten) = ⊥
IsRead within left_old left_new old new (Err stop.Memory) = Unit {0}
