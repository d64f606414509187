-- Lines of ranges, one after another.
use Rattle.std.proofs.Common.{◌≡◌, ℕ, ◌+◌, ◌<◌, ◌≤◌, ◌++◌, ◌∷◌, List, [], length, take, get_or, refl, sym, ◌∙◌, ap, subst}
use Rattle.std.proofs.lemmas.List.{append-nil, append_assoc, take_more}
use Rattle.std.proofs.lemmas.List.Elements.{Contains-get_or}
use Rattle.ipam_data.specs.RowList.{AllAre}
use Rattle.number_pools.specs.declared.rows.NumberRange.{NumberRange}
use Rattle.number_pools.specs.Lawful.{IsInBounds}
use Rattle.number_pools.specs.Rows.{Pools}
use Rattle.pool_report.specs.Report.{AreLines, IsLine}

-- one line more
one_more : (s : Pools) (ranges : List NumberRange) (range : NumberRange) (text line : List ℕ) → AreLines s ranges text → IsLine s range line → AreLines s (ranges ++ range ∷ []) (text ++ line)
one_more s [] range text line is own = (line, [], own, refl, ap (λ (t : List ℕ). t ++ line) is ∙ sym (append-nil line))
one_more s (r ∷ rs) range text line is own =
    (is.0, is.1 ++ line, is.2, one_more s rs range is.1 line is.3 own, ap (λ (t : List ℕ). t ++ line) is.4 ∙ append_assoc is.0 is.1 line)

pub line_more : (s : Pools) (items ranges : List NumberRange) (i : ℕ) (range : NumberRange) (text line new : List ℕ) → items ≡ ranges → i < length items → range ≡ get_or items i range
    → AreLines s (take i ranges) text → IsLine s range line → new ≡ text ++ line → AreLines s (take (i + 1) ranges) new
line_more s items ranges i range text line new all there item is own same =
    let front : take i items ++ range ∷ [] ≡ take (i + 1) ranges =
    ap (λ (r : NumberRange). take i items ++ r ∷ []) item ∙ sym (take_more items i range there) ∙ ap (take (i + 1)) all in
    let before : AreLines s (take i items) text = subst (λ (rs : List NumberRange). AreLines s (take i rs) text) (sym all) is in
    subst (AreLines s (take (i + 1) ranges)) (sym same) (subst (λ (rs : List NumberRange). AreLines s rs (text ++ line)) front (one_more s (take i items) range text line before own))

-- a range of the list is in its bounds
pub in_order : (items ranges : List NumberRange) (i : ℕ) (range : NumberRange) → items ≡ ranges → i < length items → range ≡ get_or items i range → AllAre IsInBounds ranges → range.first ≤ range.last
in_order items ranges i range all there item bounds =
    let own = subst (AllAre IsInBounds) (sym all) bounds (get_or items i range) (Contains-get_or items i range there) in
    (subst IsInBounds (sym item) own).1
