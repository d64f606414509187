-- What is seen of the input, the output and the messages of a command, before it and after it.
use Rattle.std.specs.Prelude.{◌≡◌, ℕ, ◌≤◌, ◌⊎◌, ◌++◌, ◌∷◌, [], List, Option, codes}
use Rattle.std.specs.Io.KnownBytes.{Appends, Keeps}
use Rattle.ipam_edge.specs.Faults.{Rose}
use Rattle.ipam_edge.specs.Writing.{AppendsFront}

-- what is known of an object of the outside: its bytes, if they are known, and its count of faults
pub record Told : Type 0 where
  pub bytes : Option (List ℕ)
  pub faults : ℕ

-- what is known of the object, by the members of its trait
abbrev pub told : {S : Type 0} → (S → Option (List ℕ)) → (S → ℕ) → S → Told
told bytes faults object = record { bytes = bytes object; faults = faults object }

-- known of the input are the bytes that are left, of the output and the messages those that were written
pub record Streams : Type 0 where
  pub input : Told
  pub output : Told
  pub errors : Told

abbrev pub streams : Told → Told → Told → Streams
streams input output errors = record { input = input; output = output; errors = errors }

-- the object gained this text
abbrev pub Gains : Told → Told → List ℕ → Type 0
Gains old new text = Appends old.bytes new.bytes text

-- it gained a prefix of this text, which may be empty
abbrev pub GainsFront : Told → Told → List ℕ → Type 0
GainsFront old new text = AppendsFront old.bytes new.bytes text

-- its bytes are unchanged
abbrev pub Stays : Told → Told → Type 0
Stays old new = Keeps old.bytes new.bytes

-- it failed meanwhile
abbrev pub Failed : Told → Told → Type 0
Failed old new = Rose old.faults new.faults

-- one of the objects failed meanwhile
abbrev pub SomeFailed : Streams → Streams → Type 0
SomeFailed old new = Failed old.input new.input ⊎ Failed old.output new.output ⊎ Failed old.errors new.errors

-- no count of faults falls
pub record NeverFalls (old new : Streams) : Type 0 where
  pub input : old.input.faults ≤ new.input.faults
  pub output : old.output.faults ≤ new.output.faults
  pub errors : old.errors.faults ≤ new.errors.faults

-- no count of faults rose
pub record NeverRises (old new : Streams) : Type 0 where
  pub input : new.input.faults ≡ old.input.faults
  pub output : new.output.faults ≡ old.output.faults
  pub errors : new.errors.faults ≡ old.errors.faults

-- the message was said and the command ends with its status, or the object failed, gained a prefix of it, and the status is 3
abbrev pub EndsWith : Told → Told → List ℕ → ℕ → ℕ → Type 0
EndsWith old new message wanted status =
    ((status ≡ wanted) × Gains old new message) ⊎ ((status ≡ 3) × Failed old new × GainsFront old new message)

-- what is said if the arguments ask for no command
abbrev pub usage_text : List ℕ
usage_text = codes "usage: ipamd COMMAND" ++ 10 ∷ []

-- the usage line is on the messages, as far as that could be, and nothing else was used
pub record IsUsage (old new : Streams) (status : ℕ) : Type 0 where
  pub input : new.input ≡ old.input
  pub output : new.output ≡ old.output
  pub said : EndsWith old.errors new.errors usage_text 2 status
  pub later : NeverFalls old new
