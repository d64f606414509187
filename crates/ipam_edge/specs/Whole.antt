-- What is known of an input that was read whole, or not.
use Rattle.std.specs.Prelude.{◌≡◌, ℕ, ◌<◌, ◌≤◌, List, [], Option, Some, IfSome, length}

-- the input was read to its end, and gave these bytes, of which there are at most so many
pub record IsWhole (most : ℕ) (left_old left_new : Option (List ℕ)) (bytes : List ℕ) : Type 0 where
  pub told : IfSome left_old (λ left. (left ≡ bytes) × (left_new ≡ Some []))
  pub few : length bytes ≤ most

-- the input, if its bytes are known, has more than so many
abbrev pub IsTooLong : ℕ → Option (List ℕ) → Type 0
IsTooLong most left_old = IfSome left_old (λ left. most < length left)
