-- A legal place stays legal as the history grows.
use Rattle.std.proofs.Common.{◌≡◌, ℕ, zero, suc, ◌≤◌, Bool, List, [], ◌∷◌, ◌++◌, length, refl, sym, ap, ◌∙◌, subst, arith}
use Rattle.std.specs.Prelude.{take, slice_get, Some}
use mathlib.Core.List.{IsPrefix}
use Rattle.history_lock.specs.Replies.{ReplyKind, AnswersAs}
use Rattle.history_lock.specs.Replay.{replay}
use Rattle.history_lock.specs.Places.{IsLegalAt}

module _ {X : Type 0} where
  take_front : (xs ys : List X) (n : ℕ) → n ≤ length xs → take n (xs ++ ys) ≡ take n xs
  take_front xs ys zero le = refl
  take_front [] ys (suc n) le = absurd (omega arith)
  take_front (x ∷ xs) ys (suc n) le = ap (λ l. x ∷ l) (take_front xs ys n (omega arith))

  get_front : (xs ys : List X) (n : ℕ) (x : X) → slice_get xs n ≡ Some x → slice_get (xs ++ ys) n ≡ Some x
  get_front [] ys n x e = absurd (cc (e))
  get_front (z ∷ xs) ys zero x e = e
  get_front (z ∷ xs) ys (suc n) x e = get_front xs ys n x e

pub IsLegalAt-longer : {S C A : Type 0} (step : S → C → S × A) (fallible : A → Bool) (opening : S) (h g : List (ℕ × C)) (who : ℕ) (call : C) (answer : A) (kind : ReplyKind) (place : ℕ) → IsPrefix h g
    → IsLegalAt step fallible opening h who call answer kind place → IsLegalAt step fallible opening g who call answer kind place
IsLegalAt-longer step fallible opening h g who call answer kind place p l =
    subst (λ (z : List (ℕ × _)). IsLegalAt step fallible opening z who call answer kind place) p.1 record {
      within = (let le = l.within in let long = Rattle.std.proofs.Common.length-append h p.0 in omega arith);
      right = subst (λ z. AnswersAs fallible kind answer (step (replay step opening z) call).1) (sym (take_front h p.0 place l.within)) l.right;
      entry = λ is. get_front h p.0 place (who, call) (l.entry is);
    }
