-- What a prefix list lets in, as `--match` and `--le` say it.
use Rattle.std.specs.Prelude.{◌≡◌, ◌⊎◌, ℕ, List, Option, Some, None, codes}
use Rattle.inet_num.specs.declared.Family.{Family}
use Rattle.inet_num.specs.Net.{width_of}
use Rattle.command_words.specs.declared.asked.Matching.{Matching}
use Rattle.command_words.specs.declared.asked.Matching.TheVariants.{Addresses, Routes, Longer}
use Rattle.command_words.specs.Values.{IsNumberOr}

-- longer ones, up to a number of this kind
abbrev pub IsLonger : (ℕ → Type 0) → Matching → Type 0
IsLonger IsMost Addresses = ⊥
IsLonger IsMost Routes = ⊥
IsLonger IsMost (Longer n) = IsMost n

-- `addresses`, as nothing too, or `routes`, both without a length; or `longer`, up to a length from 1 to the family's greatest one, which is
-- taken if none is given
abbrev pub IsMatchValue : Family → Option (List ℕ) → Option (List ℕ) → Matching → Type 0
IsMatchValue family text most Addresses = ((text ≡ None) ⊎ (text ≡ Some (codes "addresses"))) × (most ≡ None)
IsMatchValue family text most Routes = (text ≡ Some (codes "routes")) × (most ≡ None)
IsMatchValue family text most (Longer n) = (text ≡ Some (codes "longer")) × IsNumberOr (width_of family) (width_of family) most n
