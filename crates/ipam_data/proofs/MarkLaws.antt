-- Marks of all ranges keep what could be given out before there were marks.
use Rattle.std.proofs.Common.{◌≡◌, ℕ, ◌&&◌, ◌||◌, Bool, true, cond, not, List, [], ◌∷◌, map, filter, refl, ap, ◌∙◌}
use Rattle.inet_num.specs.Count.{addresses_of}
use Rattle.block_space.specs.Usable.{usable_of, is_usable, is_omitted}
use Rattle.ipam_data.specs.declared.prefix.Prefix.{Prefix}
use Rattle.ipam_data.specs.declared.range.IpRange.{IpRange}
use Rattle.ipam_data.specs.Claims.{is_hosted, is_beside, has_number, is_withheld}
use Rattle.ipam_data.specs.Marks.{once_withheld, with_mark, MarksKeepPrefixes, NoMarksKeepRanges}

withheld_same : (ranges : List IpRange) (row : Prefix) (a : ℕ) → is_withheld (map (with_mark true) ranges) row a ≡ once_withheld ranges row a
withheld_same [] row a = refl
withheld_same (r ∷ ranges) row a = ap (λ (t : Bool). (is_beside row r && has_number r a) || t) (withheld_same ranges row a)

filter_same : (p q : ℕ → Bool) (xs : List ℕ) → ((x : ℕ) → p x ≡ q x) → filter p xs ≡ filter q xs
filter_same p q [] h = refl
filter_same p q (x ∷ xs) h = ap (λ (t : Bool). cond t (x ∷ filter p xs) (filter p xs)) (h x) ∙ ap (λ (ys : List ℕ). cond (q x) (x ∷ ys) ys) (filter_same p q xs h)

pub marks_keep_prefixes : MarksKeepPrefixes
unfolding usable_of
marks_keep_prefixes s row =
    let held = is_hosted s.addresses.rows row in
    filter_same (is_usable held (is_withheld (map (with_mark true) s.ranges.rows) row) row.block row.is_pool) (is_usable held (once_withheld s.ranges.rows row) row.block row.is_pool) (addresses_of row.block)
    (λ a. ap (λ (t : Bool). not (held a) && not t && not (is_omitted row.block row.is_pool a)) (withheld_same s.ranges.rows row a))

pub no_marks_keep_ranges : NoMarksKeepRanges
no_marks_keep_ranges s row = refl
