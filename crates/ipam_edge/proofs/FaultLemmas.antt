-- Where a count of faults rose, and where it stayed.
use Rattle.std.proofs.Common.{◌≡◌, ◌⊎◌, ℕ, Result, inl, inr, subst}
use Rattle.ipam_edge.specs.Faults.{HasCause}

-- it was none of those that failed
pub unless : {A B : Type 0} → (A → ⊥) → A ⊎ B → B
unless never (inl a) = absurd (never a)
unless never (inr b) = b

-- a call behind others that did not fail
pub cause_behind : {T E : Type 0} (start old new : ℕ) (r : Result T E) → old ≡ start → HasCause old new r → HasCause start new r
cause_behind start old new r same cause = subst (λ (n : ℕ). HasCause n new r) same cause
