-- What a board shows.
use Rattle.std.specs.Prelude.{◌≡◌, ℕ, Bool, true}

-- as long as it is up, it shows this sum
abbrev pub Shows : Bool → ℕ → ℕ → Type 0
Shows up shown sum = up ≡ true → shown ≡ sum
