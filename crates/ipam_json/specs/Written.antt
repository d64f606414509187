-- What the writing of a value appends, piece by piece.
use Rattle.std.specs.Prelude.{◌≡◌, List, [], ◌∷◌, ◌++◌, Option, Some, None, Result, OnOk}
use Rattle.json.specs.Token.{Token}
use Rattle.json.specs.Tree.{json_tokens}
use Rattle.json.specs.Written.{Written}
use Rattle.serde_json.specs.Data.{Data}
use Rattle.serde_json.specs.Written.{outline}

-- these pieces were appended; after out of memory some of them may have been, and what was before stays in both cases
pub record Puts {E : Type 0} (r : Result (Unit {0}) E) (old new : Written) (more : List Token) : Type 0 where
  pub before : new.before ≡ old.before
  pub tokens : OnOk r (new.tokens ≡ old.tokens ++ more)

-- the pieces of a value
abbrev pub pieces_of : Data → List Token
pieces_of d = json_tokens (outline d)

-- the pieces of a value that may be absent
abbrev pub value_pieces : Option Data → List Token
value_pieces None = []
value_pieces (Some d) = pieces_of d

-- the pieces of things, one after another
abbrev pub rows_pieces : {T : Type 0} → (T → Data) → List T → List Token
rows_pieces data_of [] = []
rows_pieces data_of (x ∷ xs) = pieces_of (data_of x) ++ rows_pieces data_of xs
