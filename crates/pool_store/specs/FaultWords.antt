-- What is said if an opening is refused.
use Rattle.std.specs.Prelude.{◌≡◌, ◌++◌, ◌∷◌, [], ℕ, List, codes, decimal}
use Rattle.command_streams.specs.Streams.{EndsWith, Told}
use Rattle.pool_opening.specs.declared.faults.PoolFault.{PoolFault}
use Rattle.pool_opening.specs.declared.faults.PoolFault.TheVariants.{BadRange, BadMember, BadNext, Keeper, Memory}

-- the line that names a row by what it is and its id
abbrev pub row_line : List ℕ → ℕ → List ℕ
row_line name id = codes "store: " ++ name ++ decimal id ++ 10 ∷ []

-- the line that says why; of memory there is none
abbrev pub fault_line : PoolFault → List ℕ
fault_line Keeper = codes "store: the store could not be read" ++ 10 ∷ []
fault_line (BadRange id) = row_line (codes "range ") id
fault_line (BadMember id) = row_line (codes "member ") id
fault_line BadNext = codes "store: bad next id" ++ 10 ∷ []
fault_line Memory = []

-- the line was said, and the status is that of the fault; or it could not be; of memory nothing is said
abbrev pub IsSaid : PoolFault → Told → Told → ℕ → Type 0
IsSaid Keeper old new status = EndsWith old new (fault_line Keeper) 4 status
IsSaid (BadRange id) old new status = EndsWith old new (fault_line (BadRange id)) 1 status
IsSaid (BadMember id) old new status = EndsWith old new (fault_line (BadMember id)) 1 status
IsSaid BadNext old new status = EndsWith old new (fault_line BadNext) 1 status
IsSaid Memory old new status = (status ≡ 5) × (new ≡ old)
