-- Rows put behind all others, one after another.
use Rattle.std.proofs.Common.{◌≡◌, ℕ, zero, suc, ◌+◌, ◌<◌, List, [], ◌∷◌, ◌++◌, length, get_or, take, Result, Ok, Err, OnOk, sym, ap, subst, ◌∙◌, arith}
use Rattle.std.proofs.lemmas.List.{take_more}
use Rattle.ipam_data.specs.RowList.{AllBelow, Rises}

module _ {T : Type 0} (id : T → ℕ) where
  -- a row of rows whose ids rise has an id above those before it
  pub below_front : (low : ℕ) (xs : List T) (k : ℕ) (x : T) → Rises id low xs → k < length xs → x ≡ get_or xs k x → AllBelow id (id x) (take k xs) × (low < id x)
  below_front low [] k x r lt e = absurd (omega arith)
  below_front low (y ∷ ys) zero x r lt e = (tt, subst (λ (z : T). low < id z) (sym e) r.0)
  below_front low (y ∷ ys) (suc k) x r lt e =
      let f = below_front (id y) ys k x r.1 (omega arith) e in
      let a = r.0 in
      let b = f.1 in
      ((b, f.0), omega arith)

-- the rows so far with the next one
pub one_more : {T : Type 0} (xs : List T) (k : ℕ) (x : T) → k < length xs → x ≡ get_or xs k x → take k xs ++ x ∷ [] ≡ take (k + 1) xs
one_more {T} xs k x lt e = ap (λ (y : T). take k xs ++ y ∷ []) e ∙ sym (take_more xs k x lt)

-- what is said of a success, by what else is
pub on_ok : {T E : Type 0} (P Q : Type 0) (r : Result T E) → (P → Q) → OnOk r P → OnOk r Q
on_ok P Q (Ok x) f k = f k
on_ok P Q (Err e) f k = tt
