-- What an object's count of faults does in a call.
use Rattle.std.specs.Prelude.{◌≡◌, ◌<◌, ◌≤◌, ◌⊎◌, ◌-◌, ◌^◌, ℕ, Result, IsOk, IsErr}

-- the count rose, or it is at the last value of a u64, which it cannot pass
abbrev pub Rose : ℕ → ℕ → Type 0
Rose old new = (old < new) ⊎ (2 ^ 64 - 1 ≤ new)

-- the count did not fall; a failure raised it, and a call that did not fail left it
pub record HasCause {T E : Type 0} (old new : ℕ) (result : Result T E) : Type 0 where
  pub later : old ≤ new
  pub failed : IsErr result → Rose old new
  pub kept : IsOk result → new ≡ old
