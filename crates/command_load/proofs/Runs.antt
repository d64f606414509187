-- Lists of numbers that run up, under a test.
use Rattle.std.proofs.Common.{◌≡◌, ℕ, zero, suc, ◌+◌, ◌<◌, Bool, true, false, cond, List, ◌∷◌, filter, ap, sym, ◌∙◌, subst, arith}
use Rattle.inet_num.specs.Count.{numbers_from}

-- the first number that passes is the first that is left
pub first_passes : (p : ℕ → Bool) (n a many : ℕ) → n < many → ((i : ℕ) → i < n → p (a + i) ≡ false) → p (a + n) ≡ true
    → (rest : List ℕ) × (filter p (numbers_from a many) ≡ (a + n) ∷ rest)
unfolding numbers_from
first_passes p n a zero few lies holds = (let wrong : suc n ≡ 0 = omega arith in cc)
first_passes p zero a (suc many) few lies holds =
    let same : a + 0 ≡ a = omega arith in
    let here : p a ≡ true = subst (λ (x : ℕ). p x ≡ true) same holds in
    (filter p (numbers_from (a + 1) many), ap (λ (t : Bool). cond t (a ∷ filter p (numbers_from (a + 1) many)) (filter p (numbers_from (a + 1) many))) here ∙ ap (λ (x : ℕ). x ∷ filter p (numbers_from (a + 1) many)) (sym same))
first_passes p (suc n) a (suc many) few lies holds =
    let same : a + 0 ≡ a = omega arith in
    let here : p a ≡ false = subst (λ (x : ℕ). p x ≡ false) same (lies 0 (omega arith)) in
    let on : (a + 1) + n ≡ a + suc n = omega arith in
    let later = first_passes p n (a + 1) many (omega arith)
    (λ i h. let go : a + suc i ≡ (a + 1) + i = omega arith in subst (λ (x : ℕ). p x ≡ false) go (lies (suc i) (omega arith)))
    (subst (λ (x : ℕ). p x ≡ true) (sym on) holds) in
    (later.0, ap (λ (t : Bool). cond t (a ∷ filter p (numbers_from (a + 1) many)) (filter p (numbers_from (a + 1) many))) here ∙ later.1 ∙ ap (λ (x : ℕ). x ∷ later.0) on)
