-- What a call of a keeper over a file does to its count of faults.
use Rattle.std.specs.Prelude.{◌≡◌, ℕ, Result, Ok, Err}
use Rattle.ipam_keeper.specs.declared.keeper.KeepFault.{KeepFault}
use Rattle.ipam_keeper.specs.declared.keeper.KeepFault.TheVariants.{Failed, Memory}
use Rattle.ipam_keeper.specs.Keeping.{IsRaised}

-- the count is one higher, as far as it goes, if the call failed, and else the same
abbrev pub IsCounted : {T : Type 0} → Result T KeepFault → ℕ → ℕ → Type 0
IsCounted (Ok value) old new = new ≡ old
IsCounted (Err Failed) old new = IsRaised old 1 new
IsCounted (Err Memory) old new = new ≡ old
