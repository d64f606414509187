-- A count that rises exactly where something failed.
use Rattle.std.proofs.Common.{◌≡◌, ℕ, inl, inr, arith}
use Rattle.std.proofs.lemmas.Bool.Decides.{leb_tells}
use Rattle.ipam_listen.specs.Connections.{RisesExactly}

-- where nothing failed it is the same
pub unrisen : {F : Type 0} (old new : ℕ) → RisesExactly F old new → ¬ F → new ≡ old
unrisen old new k none = let later = k.later in elim (leb_tells new old) [ inl t ↦ (let le = t.1 in omega arith) | inr f ↦ absurd (none (k.only f.1)) ]
