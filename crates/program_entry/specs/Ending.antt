-- What a process ends with: the status of one run over the standard streams. U is what is seen of all that a program uses besides them.
use Rattle.std.specs.Prelude.{◌≡◌, ℕ, ◌⊎◌, List, None, Result, Ok, Err}
use Rattle.std.specs.declared.io.Error.{Error}
use Rattle.std.specs.declared.string.String.{String}
use Rattle.std.specs.declared.vec.IntoIter.{IntoIter}
use Rattle.command_streams.specs.Arguments.{HasNoText, words_behind}
use Rattle.command_streams.specs.declared.arguments.NoArguments.{NoArguments}
use Rattle.command_streams.specs.declared.arguments.NoArguments.TheVariants.{NoText, Memory}
use Rattle.command_streams.specs.Streams.{Streams, Told}

-- what a program promises of a run: by its words, the streams and what else it uses, each before and after the run, and its status
abbrev pub RunsOf : Type 0 → Type 1
RunsOf U = List (List ℕ) → Streams → Streams → U → U → ℕ → Type 0

-- what it promises of the usage line, by the streams before and after it, and its status
abbrev pub UsageOf : Type 1
UsageOf = Streams → Streams → ℕ → Type 0

-- a standard stream as it is handed out: nothing is known of it, and it has not failed
pub record IsUntold (stream : Told) : Type 0 where
  pub bytes : stream.bytes ≡ None
  pub faults : stream.faults ≡ 0

-- the three of them
pub record AreUntold (streams : Streams) : Type 0 where
  pub input : IsUntold streams.input
  pub output : IsUntold streams.output
  pub errors : IsUntold streams.errors

-- there was one run of these words over the standard streams, and this is its status
abbrev pub RunsOver : {U : Type 0} → RunsOf U → List (List ℕ) → U → U → ℕ → Type 0
RunsOver runs words before after status = (old : Streams) × (new : Streams) × AreUntold old × runs words old new before after status

-- the usage line was said over them
abbrev pub SaysNoText : UsageOf → ℕ → Type 0
SaysNoText says status = (old : Streams) × (new : Streams) × AreUntold old × says old new status

-- what it ends with if there are no words
abbrev pub EndsWithout : UsageOf → NoArguments → ℕ → Type 0
EndsWithout says NoText status = SaysNoText says status
EndsWithout says Memory status = status ≡ 5

-- what a process ends with that was given these arguments: the status of a run of their words, all but the program's name; or, if one of
-- them is no text, that of the usage line; or that of out of memory, if the system had none to give them. Then nothing else was used
abbrev pub IsEnding : {U Y Z : Type 0} → RunsOf U → UsageOf → Result (IntoIter (String Y) Z) Error → U → U → ℕ → Type 0
IsEnding runs says (Ok given) before after status = RunsOver runs (words_behind given) before after status
IsEnding runs says (Err error) before after status =
    (after ≡ before) × ((HasNoText error × SaysNoText says status) ⊎ ((¬ HasNoText error) × (status ≡ 5)))
