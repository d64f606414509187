-- Keys tell lists of texts apart.
use Rattle.std.proofs.Common.{◌≡◌, ℕ, ◌+◌, ◌/◌, ◌%◌, List, [], ◌∷◌, ◌++◌, refl, arith}
use Rattle.register_plans.specs.TextKeys.{spelled, key_of, KeysAreExact}

-- two bytes with the same letters are one
one_byte : (a b : ℕ) → 97 + a % 16 ≡ 97 + b % 16 → 97 + a / 16 ≡ 97 + b / 16 → a ≡ b
one_byte a b e f = omega arith

-- no letter of a byte is the end
no_end : (a : ℕ) → 97 + a % 16 ≡ 122 → ⊥
no_end a e = omega arith

pub record SameStart (x y r s : List ℕ) : Type 0 where
  pub text : x ≡ y
  pub rest : r ≡ s

head_of : (a b : ℕ) (xs ys : List ℕ) → a ∷ xs ≡ b ∷ ys → a ≡ b
head_of a b xs ys e = cc

tail_of : (a b : ℕ) (xs ys : List ℕ) → a ∷ xs ≡ b ∷ ys → xs ≡ ys
tail_of a b xs ys e = cc

same_start : (x y r s : List ℕ) → spelled x ++ r ≡ spelled y ++ s → SameStart x y r s
same_start [] [] r s e = record { text = refl; rest = tail_of 122 122 r s e }
same_start [] (b ∷ ys) r s e = let h = head_of _ _ _ _ e in absurd (omega arith)
same_start (a ∷ xs) [] r s e = let h = head_of _ _ _ _ e in absurd (omega arith)
same_start (a ∷ xs) (b ∷ ys) r s e =
    let low = head_of _ _ _ _ e in
    let more = tail_of _ _ _ _ e in
    let high = head_of _ _ _ _ more in
    let rest = same_start xs ys r s (tail_of _ _ _ _ more) in
    let here : a ≡ b = one_byte a b low high in
    let there = rest.text in
    record { text = cc; rest = rest.rest }

pub exact : KeysAreExact
exact [] [] e = refl
exact [] (y ∷ ys) e = absurd (empty_key y (key_of ys) e)
  where
    empty_key : (y r : List ℕ) → [] ≡ spelled y ++ r → ⊥
    empty_key [] r e = cc
    empty_key (b ∷ bs) r e = cc
exact (x ∷ xs) [] e = absurd (no_key x (key_of xs) e)
  where
    no_key : (y r : List ℕ) → spelled y ++ r ≡ [] → ⊥
    no_key [] r e = cc
    no_key (b ∷ bs) r e = cc
exact (x ∷ xs) (y ∷ ys) e =
    let h = same_start x y (key_of xs) (key_of ys) e in
    let here = h.text in
    let there = exact xs ys h.rest in cc
