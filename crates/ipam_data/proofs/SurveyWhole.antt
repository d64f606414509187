-- In a survey of a lawful state each prefix stands once, and their places rise.
use Rattle.std.proofs.Common.{◌≢◌, ℕ, ◌+◌, ◌*◌, ◌<◌, ◌≤◌, List, [], ◌∷◌, subst, arith, append-nil, IsPermutation}
use Rattle.ipam_data.specs.declared.prefix.Prefix.{Prefix}
use Rattle.ipam_data.specs.Rows.{prefix_id}
use Rattle.ipam_data.specs.RowList.{Rises, AllBelow, last_next}
use Rattle.ipam_data.specs.Survey.{survey_place, surveyed}
use Rattle.ipam_data.specs.Lawful.{SurveyIsWhole}
use Rattle.ipam_data.proofs.SurveyInsertion.{AllOther, AreApart, AllAbove, sorted_all, sorted_rises}

-- two numbers that differ in their last digit differ
differ : (k l a b : ℕ) → a < b → b < 4294967296 → k * 4294967296 + a ≢ l * 4294967296 + b
differ k l a b h fits = λ e. omega arith

more : (k a : ℕ) → 0 < a → 0 < k * 4294967296 + a
more k a h = omega arith

others : (row : Prefix) (low next : ℕ) (rows : List Prefix) → prefix_id row ≤ low → Rises prefix_id low rows → AllBelow prefix_id next rows → next ≤ last_next → AllOther survey_place row rows
others row low next [] h r b fits = tt
others row low next (y ∷ ys) h r b fits =
    let above = r.0 in
    let below = b.0 in
    (differ _ _ (prefix_id row) (prefix_id y) (omega arith) (omega arith), others row (prefix_id y) next ys (omega arith) r.1 b.1 fits)

apart : (low next : ℕ) (rows : List Prefix) → Rises prefix_id low rows → AllBelow prefix_id next rows → next ≤ last_next → AreApart survey_place rows
apart low next [] r b fits = tt
apart low next (row ∷ rows) r b fits = (others row (prefix_id row) next rows (omega arith) r.1 b.1 fits, apart (prefix_id row) next rows r.1 b.1 fits)

above : (low : ℕ) (rows : List Prefix) → Rises prefix_id low rows → AllAbove survey_place 0 rows
above low [] r = tt
above low (row ∷ rows) r = let l = r.0 in (more _ (prefix_id row) (omega arith), above (prefix_id row) rows r.1)

pub whole : SurveyIsWhole
whole s h =
    let row_list = h.prefixes.row_list in
    let rows = s.prefixes.rows in
    let p : AreApart survey_place rows = apart 0 s.prefixes.next rows row_list.ordered row_list.below row_list.next_fits in
    record {
      all = subst (λ (xs : List Prefix). IsPermutation xs (surveyed rows)) (append-nil rows) (sorted_all survey_place rows p);
      ordered = sorted_rises survey_place 0 rows (above 0 rows row_list.ordered) p;
    }
