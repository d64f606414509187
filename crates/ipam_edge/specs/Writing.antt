-- What a sink gained if a text was written in several calls.
use Rattle.std.specs.Prelude.{◌≡◌, ◌<◌, ℕ, List, [], ◌∷◌, ◌++◌, length, take, Option, Some, None, Result, Ok, Err, MatchResult}
use Rattle.std.specs.Io.KnownBytes.{Appends}
use Rattle.ipam_edge.specs.Reading.{Step}

-- the text begins with these bytes
abbrev pub IsFrontOf : List ℕ → List ℕ → Type 0
IsFrontOf front text = (rest : List ℕ) × (text ≡ front ++ rest)

-- a prefix of the text was written, and no more
abbrev pub AppendsFront : Option (List ℕ) → Option (List ℕ) → List ℕ → Type 0
AppendsFront old new text = (front : List ℕ) × IsFrontOf front text × Appends old new front

-- a prefix of the text was written that is shorter than the text
pub record AppendsLess (old new : Option (List ℕ)) (text : List ℕ) : Type 0 where
  pub front : List ℕ
  pub rest : List ℕ
  pub parts : text ≡ front ++ rest
  pub some : 0 < length rest
  pub appended : Appends old new front

-- the whole text was written at `Ok`, and a prefix of it at `Err`
abbrev pub WritesAll : {E : Type 0} → Option (List ℕ) → Option (List ℕ) → Result (Unit {0}) E → List ℕ → Type 0
WritesAll old new result text = MatchResult result (λ _. Appends old new text) (λ _. AppendsFront old new text)

-- what a write took: bytes from the start of the piece, or nothing if it failed
abbrev pub taken : {E : Type 0} → Result ℕ E → List ℕ → Option (List ℕ)
taken (Ok n) from = Some (take n from)
taken (Err e) from = None

-- these writes were made one after another, from one state of the sink to another
abbrev pub Writes : {S : Type 0} → Step S → S → List (Option (List ℕ)) → S → Type 0
Writes step s [] t = t ≡ s
Writes {S} step s (piece ∷ pieces) t = (mid : S) × step s piece mid × Writes step mid pieces t

-- one state of the sink comes from the other by writes alone
pub record ByWrites {S : Type 0} (step : Step S) (s t : S) : Type 0 where
  pub pieces : List (Option (List ℕ))
  pub writes : Writes step s pieces t
