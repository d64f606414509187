-- A row may be put in the place of one that is there.
use Rattle.std.proofs.Common.{◌≡◌, ℕ, List, Some, refl, inl}
use Rattle.ipam_data.specs.RowList.{IsFitting, row_at}

pub is_there : {T : Type 0} (id : T → ℕ) (xs : List T) (old row : T) → row_at id xs (id row) ≡ Some old → IsFitting id xs row
is_there id xs old row e = inl (rw e refl)
