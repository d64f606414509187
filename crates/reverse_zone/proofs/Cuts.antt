-- A text that is cut at the first byte of a kind.
use Rattle.std.proofs.Common.{◌≡◌, ◌≢◌, ℕ, zero, suc, ◌+◌, ◌<◌, ◌≤◌, List, [], ◌∷◌, ◌++◌, length, get_or, take, drop, refl, ap, sym, ◌∙◌, arith, add-one, drop-cons}
use Rattle.std.specs.List.{AllByRecursion, AllWithin, HoldsAt}
use Rattle.std.proofs.lemmas.List.{take-append-drop}

-- none of the bytes is this one
abbrev pub Lacks : ℕ → List ℕ → Type 0
Lacks byte text = AllByRecursion (λ c. c ≢ byte) text

lacks_front : (byte : ℕ) (text : List ℕ) (i : ℕ) → i ≤ length text → ((k : ℕ) → k < i → get_or text k 0 ≢ byte) → Lacks byte (take i text)
lacks_front byte text zero low none = tt
lacks_front byte [] (suc i) low none = tt
lacks_front byte (c ∷ text) (suc i) low none = (none 0 (omega arith), lacks_front byte text i (omega arith) (λ k h. none (suc k) (omega arith)))

pub cut_here : (byte : ℕ) (text : List ℕ) (i : ℕ) → i < length text → HoldsAt (λ c. c ≡ byte) text i → text ≡ take i text ++ byte ∷ drop (i + 1) text
cut_here byte text i low here =
    sym (take-append-drop i text) ∙ ap (λ (rest : List ℕ). take i text ++ rest) (drop-cons text i 0 low ∙ ap (λ (c : ℕ). c ∷ drop (suc i) text) (here 0) ∙ ap (λ (n : ℕ). byte ∷ drop n text) (sym (add-one i)))

pub front_lacks : (byte : ℕ) (text : List ℕ) (i : ℕ) → i < length text → AllWithin (λ c. c ≢ byte) text 0 i → Lacks byte (take i text)
front_lacks byte text i low none = lacks_front byte text i (omega arith) (λ k h. none k 0 (omega arith) h)

pub whole_lacks : (byte : ℕ) (text : List ℕ) → AllWithin (λ c. c ≢ byte) text 0 (length text) → Lacks byte text
whole_lacks byte [] none = tt
whole_lacks byte (c ∷ text) none = (none 0 0 (omega arith) (omega arith), whole_lacks byte text (λ k d low h. none (suc k) d (omega arith) (omega arith)))

pub no_cut : (byte : ℕ) (front rest : List ℕ) → ¬ Lacks byte (front ++ byte ∷ rest)
no_cut byte [] rest none = none.0 refl
no_cut byte (c ∷ front) rest none = no_cut byte front rest none.1

-- a text is cut in one way
pub cut_once : (byte : ℕ) (a r b s : List ℕ) → Lacks byte a → Lacks byte b → a ++ byte ∷ r ≡ b ++ byte ∷ s → (a ≡ b) × (r ≡ s)
cut_once byte [] r [] s h k e = (refl, (cc))
cut_once byte [] r (c ∷ b) s h k e = absurd (k.0 (cc))
cut_once byte (c ∷ a) r [] s h k e = absurd (h.0 (cc))
cut_once byte (c ∷ a) r (d ∷ b) s h k e =
    let tails : a ++ byte ∷ r ≡ b ++ byte ∷ s = cc in
    let heads : c ≡ d = cc in
    let more : (a ≡ b) × (r ≡ s) = cut_once byte a r b s h.1 k.1 tails in
    let fronts : a ≡ b = more.0 in ((cc), more.1)
