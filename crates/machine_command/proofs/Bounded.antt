-- What a machine failed is in its opener's count.
use Rattle.std.proofs.Common.{◌≡◌, ◌⊎◌, ℕ, zero, suc, ◌+◌, ◌≤◌, refl, inl, inr, arith}
use Rattle.std.proofs.lemmas.Bool.Decides.{leb_tells}
use Rattle.ipam_edge.specs.Faults.{Rose}
use Rattle.history_lock.specs.Machines.{Reaches}
use Rattle.http_session.specs.declared.session.SessionEnd.{SessionEnd}
use Rattle.http_session.specs.declared.session.SessionEnd.TheVariants.{Closed, SourceFault, SinkFault, Memory}
use Rattle.machine_command.specs.Outside.{IsRaised}
use Rattle.machine_command.specs.Session.{end_status}

pub not_below : (old last new : ℕ) → IsRaised old last new → old ≤ new
not_below old last new (inl e) = omega arith
not_below old last new (inr e) = e.0

-- where the opener's count did not rise, the machine's is none
pub none_failed : (old last new : ℕ) → IsRaised old last new → ¬ Rose old new → last ≡ 0
none_failed old last new (inl e) none = elim (leb_tells new old) [ inl t ↦ (let le = t.1 in omega arith) | inr f ↦ absurd (none (inl f.1)) ]
none_failed old last new (inr e) none = absurd (none (inr (let most = e.1 in omega arith)))

-- a count that rises by nothing stays
pub stays : (old last new : ℕ) → IsRaised old last new → last ≡ 0 → new ≡ old
stays old last new (inl e) none = omega arith
stays old last new (inr e) none = let least = e.0 in let is = e.1 in let most = e.2 in omega arith

-- the faults that were told of a machine that had failed in no call before are in the opener's count
pub bounded : (told old first last new : ℕ) → first ≡ 0 → Reaches (first + told) last → IsRaised old last new → Reaches (old + told) new
bounded told old first last new fresh (inl le) (inl e) = inl (omega arith)
bounded told old first last new fresh (inl le) (inr e) = inr (let most = e.1 in omega arith)
bounded told old first last new fresh (inr most) (inl e) = inr (omega arith)
bounded told old first last new fresh (inr most) (inr e) = inr (let is = e.1 in omega arith)

-- none was told where the machine's count is none
pub none_told : (told first last : ℕ) → first ≡ 0 → Reaches (first + told) last → last ≡ 0 → told ≡ 0
none_told told first last fresh (inl le) none = omega arith
none_told told first last fresh (inr most) none = absurd (omega arith)

-- the opener's count stayed, or a fault was told
pub stayed_or_told : (told old new : ℕ) → (told ≡ 0 → new ≡ old) → (new ≡ old) ⊎ (1 ≤ told)
stayed_or_told zero old new still = inl (still refl)
stayed_or_told (suc n) old new still = inr (omega arith)

-- only a session that ends since memory ran out has the status 5
pub ends_in_memory : (end : SessionEnd) → end_status end ≡ 5 → end ≡ Memory
ends_in_memory (Closed n) is = absurd (omega arith)
ends_in_memory SourceFault is = absurd (omega arith)
ends_in_memory SinkFault is = absurd (omega arith)
ends_in_memory Memory is = refl
