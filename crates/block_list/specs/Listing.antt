-- A space kept as a sorted list of blocks: what contracts see of a `BlockList`, and what is true of each.
use Rattle.std.specs.Prelude.{ℕ, ◌+◌, ◌^◌, ◌≤◌, List, [], ◌∷◌, length}
use Rattle.inet_num.specs.declared.Family.{Family}
use Rattle.inet_num.specs.Net.{Cidr}
use Rattle.block_space.specs.Listed.{AreBlocksOf}

-- the family of the blocks, the blocks, and how many more fit
pub record Listing : Type 0 where
  pub family : Family
  pub blocks : List Cidr
  pub spare : ℕ

-- the first addresses rise from a number on; equal ones may follow one another
abbrev pub Rises : ℕ → List Cidr → Type 0
Rises from [] = Unit {0}
Rises from (b ∷ bs) = (from ≤ b.first) × Rises b.first bs

-- sorted blocks of the family, fewer with the spare than any count overflows
pub record IsListing (listing : Listing) : Type 0 where
  pub rises : Rises 0 listing.blocks
  pub lawful : AreBlocksOf listing.family listing.blocks
  pub few : length listing.blocks + listing.spare ≤ 2 ^ 30
