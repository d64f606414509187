-- The one history of changes, and what a step on its word says.
use Rattle.std.specs.Prelude.{ℕ, ◌≡◌, ◌==◌, true, List, [], ◌∷◌, ◌++◌, length, MatchBool}
use Rattle.logbook.specs.Pages.{Cell, Step, View, Book, Named}

-- the first word of the book is the length of the history; the second one is not used
abbrev pub IsKept : {C : Type 0} → List Cell → List C → Type 0
IsKept cells log = cells ≡ (length log, true) ∷ (0, true) ∷ []

-- the first word of a book
abbrev pub head_of : Book → Named
head_of b = record { tracked = true; key = 0; book = b }

-- the change was added to all that had been seen, or the history was longer
abbrev pub Adds : {C : Type 0} → Step C → View C ℕ → ℕ → View C ℕ → Type 0
Adds s v found w = MatchBool (found == s.old) (w.0 ≡ v.0 ++ s.ask ∷ []) (Unit {0})
