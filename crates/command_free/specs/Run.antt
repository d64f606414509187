-- What a run of the command `free` promises of each status.
use Rattle.std.specs.Prelude.{◌≡◌, ℕ, ◌⊎◌, List, [], Some, IfSome, Result, Ok, Err}
use Rattle.inet_num.specs.Net.{Cidr}
use Rattle.command_streams.specs.Streams.{Told, Streams, Gains, GainsFront, Failed, NeverFalls, NeverRises}
use Rattle.command_free.specs.declared.free.Stop.{Stop}
use Rattle.command_free.specs.declared.free.Stop.TheVariants as stop
use Rattle.command_free.specs.declared.free.LineFault.{LineFault}
use Rattle.command_free.specs.Free.{IsFreeText, IsRefusedLine, refusal_text_of}

-- the input was read to its end, and the output gained the text for it
abbrev pub PrintsFree : Cidr → Told → Told → Told → Told → Type 0
PrintsFree within input_old input_new output_old output_new =
    IfSome input_old.bytes (λ input. (text : List ℕ) × IsFreeText within input text × Gains output_old output_new text × (input_new.bytes ≡ Some []))

-- the input was read to its end, and the output gained a prefix of the text for it
abbrev pub PrintsFront : Cidr → Told → Told → Told → Told → Type 0
PrintsFront within input_old input_new output_old output_new =
    IfSome input_old.bytes (λ input. (text : List ℕ) × IsFreeText within input text × GainsFront output_old output_new text × (input_new.bytes ≡ Some []))

-- a line of the input is refused, and the messages gained the text that names the first such line
abbrev pub NamesLine : Cidr → Told → Told → Told → Type 0
NamesLine within input errors_old errors_new =
    IfSome input.bytes (λ bytes. (number : ℕ) × (fault : LineFault) × IsRefusedLine within bytes number fault × Gains errors_old errors_new (refusal_text_of within number fault))

-- a line of the input is refused, and the messages gained a prefix of the text that names the first such line
abbrev pub NamesFront : Cidr → Told → Told → Told → Type 0
NamesFront within input errors_old errors_new =
    IfSome input.bytes (λ bytes. (number : ℕ) × (fault : LineFault) × IsRefusedLine within bytes number fault × GainsFront errors_old errors_new (refusal_text_of within number fault))

-- the input failed, and nothing was written
pub record FailsToRead (old new : Streams) : Type 0 where
  pub failed : Failed old.input new.input
  pub output : new.output ≡ old.output
  pub errors : new.errors ≡ old.errors

-- the output failed, with a prefix of the text of an input of which no line is refused, and nothing was said
pub record FailsToPrint (within : Cidr) (old new : Streams) : Type 0 where
  pub failed : Failed old.output new.output
  pub front : PrintsFront within old.input new.input old.output new.output
  pub errors : new.errors ≡ old.errors

-- the messages failed, with a prefix of the text that names the first refused line, and nothing was printed
pub record FailsToSay (within : Cidr) (old new : Streams) : Type 0 where
  pub failed : Failed old.errors new.errors
  pub front : NamesFront within old.input old.errors new.errors
  pub output : new.output ≡ old.output

-- a run of `free` with this block
pub record IsFree (within : Cidr) (old new : Streams) (status : ℕ) : Type 0 where
  -- the status is one of these
  pub statuses : (status ≡ 0) ⊎ (status ≡ 1) ⊎ (status ≡ 3) ⊎ (status ≡ 5)
  -- 0: the available blocks are on the output, the input was read to its end, and the messages were left alone
  pub done : status ≡ 0 → PrintsFree within old.input new.input old.output new.output × (new.errors ≡ old.errors)
  -- 1: the messages name the first refused line, and the output was left alone
  pub refused : status ≡ 1 → NamesLine within old.input old.errors new.errors × (new.output ≡ old.output)
  -- 3: one of the objects failed, and what the others gained goes with it
  pub fault : status ≡ 3 → FailsToRead old new ⊎ FailsToPrint within old new ⊎ FailsToSay within old new
  -- 5: nothing was written and nothing said
  pub memory : status ≡ 5 → (new.output ≡ old.output) × (new.errors ≡ old.errors)
  -- if a line is refused the status is 1, or 3 or 5 for their causes
  pub refuses : (number : ℕ) (fault : LineFault)
      → IfSome old.input.bytes (λ bytes. IsRefusedLine within bytes number fault → (status ≡ 1) ⊎ (status ≡ 3) ⊎ (status ≡ 5))
  -- no count of faults falls, and none rose if memory ran out
  pub later : NeverFalls old new
  pub quiet : status ≡ 5 → NeverRises old new

-- what is known if the blocks were written, or why they were not
abbrev pub IsFreeEnd : Cidr → Told → Told → Told → Told → Result (Unit {0}) Stop → Type 0
IsFreeEnd within input_old input_new output_old output_new (Ok _) = PrintsFree within input_old input_new output_old output_new
IsFreeEnd within input_old input_new output_old output_new (Err (stop.Line number fault)) =
    IfSome input_old.bytes (λ bytes. IsRefusedLine within bytes number fault) × (output_new ≡ output_old)
IsFreeEnd within input_old input_new output_old output_new (Err stop.Unread) = Failed input_old input_new × (output_new ≡ output_old)
IsFreeEnd within input_old input_new output_old output_new (Err stop.Unwritten) = Failed output_old output_new × PrintsFront within input_old input_new output_old output_new
IsFreeEnd within input_old input_new output_old output_new (Err stop.Memory) = output_new ≡ output_old

-- what is known if a refused line was named, or could not be
abbrev pub IsNamed : Cidr → ℕ → LineFault → Told → Told → ℕ → Type 0
IsNamed within number fault old new status =
    ((status ≡ 1) × Gains old new (refusal_text_of within number fault))
    ⊎ ((status ≡ 3) × Failed old new × GainsFront old new (refusal_text_of within number fault))
    ⊎ ((status ≡ 5) × (new ≡ old))
