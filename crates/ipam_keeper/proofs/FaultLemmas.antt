-- The count of an opener whose keeper came back and had not failed.
use Rattle.std.proofs.Common.{◌≡◌, ◌∙◌, ◌⊎◌, ℕ, inl, inr, arith}
use Rattle.ipam_keeper.specs.Keeping.{IsRaised}

-- a keeper that never failed came back
pub raised_by_none : (old more new : ℕ) → more ≡ 0 → IsRaised old more new → new ≡ old
raised_by_none old more new zero_ (inl is) = omega (arith, zero_, is)
raised_by_none old more new zero_ (inr (later, top, most)) = omega (arith, zero_, later, top, most)

-- a keeper that had not failed when it started came back, and failed meanwhile only where that is said
pub still_back : {A : Type 0} (old mid fresh more new : ℕ) → mid ≡ old → fresh ≡ 0 → A ⊎ (more ≡ fresh) → IsRaised mid more new → A ⊎ (new ≡ old)
still_back old mid fresh more new same zero_ (inl a) raised = inl a
still_back old mid fresh more new same zero_ (inr is) raised = inr (raised_by_none mid more new (is ∙ zero_) raised ∙ same)
