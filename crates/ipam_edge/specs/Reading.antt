-- What the reads of a source gave, one after another.
use Rattle.std.specs.Prelude.{◌≡◌, ◌<◌, ℕ, List, [], ◌∷◌, ◌++◌, length, take, Option, Some, None, Result, Ok, Err}

-- what a read gave: bytes, none of them at the end of the input, or nothing if it failed
abbrev pub given : {E : Type 0} → Result ℕ E → List ℕ → Option (List ℕ)
given (Ok n) into = Some (take n into)
given (Err e) into = None

-- which reads an object admits: from one state of it, with what is given, to the next
abbrev pub Step : Type 0 → Type 1
Step S = S → Option (List ℕ) → S → Type 0

-- what the last of some reads said besides bytes: nothing, that the input has ended, or that it failed
pub data Last : Type 0 where
  Open : Last
  Told : Last
  Failed : Last

-- these pieces were read one after another, each of some bytes, from one state of the source to another, and then the last read said
-- that; each read was made while P held of the bytes that were there before it
abbrev pub Reads : {S : Type 0} → Step S → (List ℕ → Type 0) → S → List ℕ → List (List ℕ) → Last → S → Type 0
Reads step P s so_far [] Open t = t ≡ s
Reads step P s so_far [] Told t = P so_far × step s (Some []) t
Reads step P s so_far [] Failed t = P so_far × step s None t
Reads {S} step P s so_far (piece ∷ pieces) last t =
    (mid : S) × P so_far × (0 < length piece) × step s (Some piece) mid × Reads step P mid (so_far ++ piece) pieces last t

-- the pieces, one after another
abbrev pub joined : List (List ℕ) → List ℕ
joined [] = []
joined (piece ∷ pieces) = piece ++ joined pieces

-- the bytes grew from old to new by reads, each made while P held of the bytes so far
pub record GrownByReads {S : Type 0} (step : Step S) (P : List ℕ → Type 0) (s t : S) (old new : List ℕ) (last : Last) : Type 0 where
  pub pieces : List (List ℕ)
  pub reads : Reads step P s old pieces last t
  pub grown : new ≡ old ++ joined pieces
