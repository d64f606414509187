-- The place of a prefix among all as three digits, which are compared one after another: the number of the place fits no integer.
use Rattle.std.specs.Prelude.{ℕ, ◌+◌, ◌*◌, ◌^◌}
use Rattle.std.specs.declared.cmp.Ordering.{Ordering}
use Rattle.std.specs.Ordering.{ordering_then, nat_cmp}
use Rattle.ipam_data.specs.declared.prefix.Prefix.{Prefix}
use Rattle.ipam_data.specs.State.{State}
use Rattle.ipam_data.specs.Survey.{table_place, family_place, line_of}
use Rattle.register_claims.specs.declared.surveys.line.Placed.{Placed}

abbrev pub Digits : Type 0
Digits = ℕ × ℕ × ℕ

-- the table with the family, the first address, and the length with the id
abbrev pub place_digits : Prefix → Digits
place_digits row =
    (table_place row.vrf * 2 + family_place row.block.family, row.block.first, row.block.len * 2 ^ 32 + row.id)

-- the order of places: by the greatest digit in which they differ
abbrev pub digits_cmp : Digits → Digits → Ordering
digits_cmp x y = ordering_then (ordering_then (nat_cmp x.0 y.0) (nat_cmp x.1 y.1)) (nat_cmp x.2 y.2)

-- a prefix's line, with its place
abbrev pub placed_row : State → Prefix → Placed
placed_row s row = record { place = place_digits row; line = line_of s row }
