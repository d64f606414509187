-- How entries are chosen, for the proofs: the order that they are put in, and which of them are kept.
use Rattle.std.specs.Prelude.{◌≡◌, ℕ, ◌&&◌, nat_le, Bool, List, [], ◌∷◌, map, filter, if◌then◌else◌}
use Rattle.std.specs.List.{AllByRecursion}
use Rattle.std.specs.Ordering.{ordering_then, nat_cmp}
use Rattle.std.specs.declared.cmp.Ordering.{Ordering}
use Rattle.inet_num.specs.Net.{Cidr, IsBlock}
use Rattle.inet_num.specs.Blocks.{is_block_inside}
use Rattle.prefix_list.specs.declared.routes.Entry.{Entry}

-- the entry lets in all that the other one does
abbrev pub covers : Entry → Entry → Bool
covers e other = is_block_inside other.block e.block && nat_le other.most e.most

-- those that the last one kept before them does not cover
abbrev pub kept_after : Entry → List Entry → List Entry
kept_after last [] = []
kept_after last (e ∷ es) = if covers last e then kept_after last es else e ∷ kept_after e es

abbrev pub kept_of : List Entry → List Entry
kept_of [] = []
kept_of (e ∷ es) = e ∷ kept_after e es

-- an entry up to this length for each block that is no longer
abbrev pub upto_of : ℕ → List Cidr → List Entry
upto_of most blocks = map (λ b. record { block = b; most = most }) (filter (λ b. nat_le b.len most) blocks)

-- what entries are sorted by
abbrev pub place_of : Entry → ℕ × ℕ
place_of e = (e.block.first, e.block.len)

abbrev pub place_cmp : ℕ × ℕ → ℕ × ℕ → Ordering
place_cmp x y = ordering_then (nat_cmp x.0 y.0) (nat_cmp x.1 y.1)
