-- What is left with status 5.
use Rattle.std.proofs.Common.{◌≡◌, ◌⊎◌, ℕ, List, inl, inr, ap, arith}
use Rattle.command_streams.specs.Streams.{EndsWith, Told}
use Rattle.pool_opening.specs.declared.faults.PoolFault.{PoolFault}
use Rattle.pool_opening.specs.declared.faults.PoolFault.TheVariants.{BadRange, BadMember, BadNext, Keeper, Memory}
use Rattle.pool_store.specs.FaultWords.{IsSaid, fault_line}

-- a text that was not printed
pub put_quiet : (IsText : List ℕ → Type 0) (old new : Told) (status : ℕ) → ((text : List ℕ) × IsText text × EndsWith old new text 0 status) ⊎ ((status ≡ 5) × (new ≡ old))
    → status ≡ 5 → new.faults ≡ old.faults
put_quiet IsText old new status (inl (text, is, inl said)) five = absurd (let e = said.0 in omega arith)
put_quiet IsText old new status (inl (text, is, inr failed)) five = absurd (let e = failed.0 in omega arith)
put_quiet IsText old new status (inr none) five = ap (λ (t : Told). t.faults) none.1

no_line : {A : Type 0} (line : List ℕ) (wanted status : ℕ) (old new : Told) → ¬ (wanted ≡ 5) → EndsWith old new line wanted status → status ≡ 5 → A
no_line line wanted status old new other (inl said) five = absurd (let e = said.0 in other (omega arith))
no_line line wanted status old new other (inr failed) five = absurd (let e = failed.0 in omega arith)

-- an opening of which nothing was said: memory ran out
pub said_quiet : (fault : PoolFault) (old new : Told) (status : ℕ) → IsSaid fault old new status → status ≡ 5 → (new.faults ≡ old.faults) × ¬ (fault ≡ Keeper)
said_quiet Keeper old new status said five = no_line (fault_line Keeper) 4 status old new (λ e. omega arith) said five
said_quiet (BadRange id) old new status said five = no_line (fault_line (BadRange id)) 1 status old new (λ e. omega arith) said five
said_quiet (BadMember id) old new status said five = no_line (fault_line (BadMember id)) 1 status old new (λ e. omega arith) said five
said_quiet BadNext old new status said five = no_line (fault_line BadNext) 1 status old new (λ e. omega arith) said five
said_quiet Memory old new status said five = (ap (λ (t : Told). t.faults) said.1, λ wrong. absurd (cc wrong))

-- and the store did not fail
pub store_quiet : (fault : PoolFault) (old new : ℕ) → (fault ≡ Keeper) ⊎ (new ≡ old) → ¬ (fault ≡ Keeper) → new ≡ old
store_quiet fault old new (inl keeper) other = absurd (other keeper)
store_quiet fault old new (inr same) other = same
