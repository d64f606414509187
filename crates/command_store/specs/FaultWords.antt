-- What is said if an opening is refused.
use Rattle.std.specs.Prelude.{◌≡◌, ℕ, ◌⊎◌, List, [], ◌∷◌, ◌++◌, codes}
use Rattle.ipam_words.specs.Lines.{breach_text, unreadable_text, version_text, next_id_text, excess_text}
use Rattle.stored_tables.specs.declared.opening.OpenFault.{OpenFault}
use Rattle.stored_tables.specs.declared.opening.OpenFault.TheVariants.{Keeper, BadTables, Memory, BadRow, Version, BadNext, Limit}
use Rattle.command_streams.specs.Streams.{Told, EndsWith}

-- the fault of an opening in words; out of memory has none
abbrev pub fault_words : OpenFault → List ℕ
fault_words Keeper = codes "the store could not be read"
fault_words (BadTables kind n rule) = breach_text kind n rule
fault_words Memory = []
fault_words (BadRow kind n) = unreadable_text kind n
fault_words (Version n) = version_text n
fault_words (BadNext kind) = next_id_text kind
fault_words (Limit which n) = excess_text which n

-- the line that says it
abbrev pub fault_line : OpenFault → List ℕ
fault_line fault = codes "store: " ++ fault_words fault ++ 10 ∷ []

-- the line was said and the status is that of the fault; or it could not be; or memory ran out, and nothing was said
abbrev pub IsSaid : OpenFault → Told → Told → ℕ → Type 0
IsSaid Memory old new status = (status ≡ 5) × (new ≡ old)
IsSaid Keeper old new status = EndsWith old new (fault_line Keeper) 4 status
IsSaid fault old new status = EndsWith old new (fault_line fault) 1 status ⊎ ((status ≡ 5) × (new ≡ old))
