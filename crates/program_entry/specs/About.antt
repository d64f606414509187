-- What a program says of itself: a text is printed.
use Rattle.std.specs.Prelude.{◌≡◌, ◌⊎◌, ◌++◌, ℕ, List, [], ◌∷◌}
use Rattle.command_streams.specs.Streams.{EndsWith, NeverFalls, Streams}
use Rattle.program_entry.specs.declared.about.TheConstants.{VERSION}

-- the name of a program and its version, on a line
abbrev pub version_text_of : List ℕ → List ℕ
version_text_of program = program ++ 32 ∷ VERSION.now ++ 10 ∷ []

-- the text is on the output, as far as that could be; or memory ran out before, and nothing is on it. Nothing else is used
pub record IsPrinted (text : List ℕ) (old new : Streams) (status : ℕ) : Type 0 where
  pub input : new.input ≡ old.input
  pub errors : new.errors ≡ old.errors
  pub said : EndsWith old.output new.output text 0 status ⊎ ((status ≡ 5) × (new.output ≡ old.output))
  pub later : NeverFalls old new
