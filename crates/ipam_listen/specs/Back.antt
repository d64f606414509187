-- Lanes that were given back, however they are read.
use Rattle.std.proofs.Common.{ℕ, ◌≤◌, List, length, map, sym, subst}
use Rattle.std.proofs.lemmas.List.{length-map}

-- no more of them are read than there are
pub read_within : {A B : Type 0} (read : A → B) (lanes : List A) (most : ℕ) → length lanes ≤ most → length (map read lanes) ≤ most
read_within read lanes most le = subst (λ (n : ℕ). n ≤ most) (sym (length-map lanes read)) le
