-- How a text is written by pieces of a buffer.
use Rattle.std.specs.Prelude.{◌≡◌, ℕ, List, ◌++◌, Option, Result, MatchResult}
use Rattle.std.specs.Io.KnownBytes.{Appends}
use Rattle.ipam_edge.specs.Writing.{AppendsFront}

-- of what the buffer had and this text a front was written, and the rest is in the buffer
pub record Passes (old new : Option (List ℕ)) (before after text : List ℕ) : Type 0 where
  pub front : List ℕ
  pub told : Appends old new front
  pub rest : front ++ after ≡ before ++ text

-- so it is; or a write failed, and a prefix of both was written
abbrev pub Puts : {E : Type 0} → Option (List ℕ) → Option (List ℕ) → List ℕ → List ℕ → List ℕ → Result (Unit {0}) E → Type 0
Puts old new before after text result = MatchResult result (λ _. Passes old new before after text) (λ _. AppendsFront old new (before ++ text))
