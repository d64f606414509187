-- The first of some words; and each value is determined by the text that was given.
use Rattle.std.proofs.Common.{◌≡◌, ℕ, ◌<◌, ◌≤◌, ◌^◌, List, [], ◌∷◌, Bor, map, length, get_or, refl, sym, ◌∙◌, arith, Option, Some, None, decimal}
use Rattle.std.proofs.lemmas.Fmt.{decimal_injective}
use Rattle.word_values.specs.Values.{IsNumberOr, IsNumberValue, IsTextValue}

pub some_word : (words : List (Bor (List ℕ))) (d : Bor (List ℕ)) → 1 ≤ length words → (rest : List (List ℕ)) × (map (λ w. w.now) words ≡ (get_or words 0 d).now ∷ rest)
some_word [] d h = absurd (omega arith)
some_word (w ∷ ws) d h = (map (λ v. v.now) ws, refl)

-- the first of two lists that are one
pub same_first : (a b : List ℕ) (more others : List (List ℕ)) → a ∷ more ≡ b ∷ others → a ≡ b
same_first a b more others h = cc

pub one_number : (most : ℕ) (text : Option (List ℕ)) (m n : ℕ) → most < 2 ^ 64 → IsNumberValue most text m → IsNumberValue most text n → m ≡ n
one_number most None m n small h k = absurd h
one_number most (Some text) m n small h k =
    let low = h.2 in
    let low_too = k.2 in
    decimal_injective m n (omega arith) (omega arith) (sym h.0 ∙ k.0)

pub one_number_or : (usual most : ℕ) (text : Option (List ℕ)) (m n : ℕ) → most < 2 ^ 64 → IsNumberOr usual most text m → IsNumberOr usual most text n → m ≡ n
one_number_or usual most None m n small h k = h ∙ sym k
one_number_or usual most (Some text) m n small h k = one_number most (Some text) m n small h k

pub one_text : (text : Option (List ℕ)) (s t : List ℕ) → IsTextValue text s → IsTextValue text t → s ≡ t
one_text None s t h k = absurd h
one_text (Some text) s t h k = h.0 ∙ sym k.0
