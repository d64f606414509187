-- Where a text is cut: at its first line feed, or at its first space.
use Rattle.std.proofs.Common.{◌≡◌, ◌≢◌, ℕ, suc, ◌+◌, ◌-◌, ◌<◌, ◌≤◌, refl, sym, ◌∙◌, ap, subst, arith, Bool, true, false, not, cond, All, List, [], ◌∷◌, ◌++◌, length, get_or, take, drop, append_assoc}
use Rattle.std.specs.List.{list_any, position_or_len, before_first, slice_split}
use Rattle.std.proofs.lemmas.Bool.Decides.{nat_tests}
use Rattle.std.proofs.lemmas.Grind.{get_or_default_zero}
use Rattle.std.proofs.lemmas.List.{take_all, take_rest}
use Rattle.std.proofs.lemmas.List.Splits.{slice_split_first, slice_split_none}
use Rattle.std.proofs.lemmas.List.Sums.{position_or_len_is}
use Rattle.prefix_list.specs.Reading.{is_feed, lines_of}
use Rattle.prefix_list.specs.Forms.{is_space}

-- no byte before the index is this one
abbrev pub IsClear : List ℕ → ℕ → ℕ → Type 0
IsClear text i b = (k : ℕ) → k < i → get_or text k 0 ≢ b

-- ---- the first line

at_feed : (text : List ℕ) (i : ℕ) → i < length text → IsClear text i 10 → get_or text i 0 ≡ 10 → position_or_len is_feed text ≡ i
at_feed text i l before here = position_or_len_is is_feed text i 0 (omega arith)
    (λ k h. (let other = before k h in grind (arith, nat_tests))) (λ _. (grind (arith, nat_tests)))

pub first_line : (text : List ℕ) (i : ℕ) → i < length text → IsClear text i 10 → get_or text i 0 ≡ 10
    → lines_of text ≡ take i text ∷ lines_of (take (length text - (i + 1)) (drop (i + 1) text))
first_line text i l before here =
    let at = at_feed text i l before here in
    slice_split_first is_feed text 0 (omega arith)
    ∙ ap (λ (k : ℕ). take k text ∷ lines_of (drop (k + 1) text)) at
    ∙ ap (λ (r : List ℕ). take i text ∷ lines_of r) (sym (take_rest text (i + 1)))

pub last_line : (text : List ℕ) (i : ℕ) → length text ≤ i → IsClear text i 10 → lines_of text ≡ text ∷ []
last_line text i all before = slice_split_none is_feed text (λ k d l.
    let e = get_or_default_zero text k d l in
    let other = before k (omega arith) in
    grind (arith, nat_tests))

-- ---- the first word

at_space : (text : List ℕ) (i : ℕ) → i < length text → IsClear text i 32 → get_or text i 0 ≡ 32 → position_or_len is_space text ≡ i
at_space text i l before here = position_or_len_is is_space text i 0 (omega arith)
    (λ k h. (let other = before k h in grind (arith, nat_tests))) (λ _. (grind (arith, nat_tests)))

no_space : (text : List ℕ) (i : ℕ) → length text ≤ i → IsClear text i 32 → position_or_len is_space text ≡ length text
no_space text i all before = position_or_len_is is_space text (length text) 0 (omega arith)
    (λ k h. (let other = before k (omega arith) in grind (arith, nat_tests))) (λ h. absurd (omega arith))

pub word_at : (text : List ℕ) (i : ℕ) → i < length text → IsClear text i 32 → get_or text i 0 ≡ 32 → take i text ≡ before_first is_space text
word_at text i l before here = ap (λ (k : ℕ). take k text) (sym (at_space text i l before here))

pub word_whole : (text : List ℕ) (i : ℕ) → length text ≤ i → IsClear text i 32 → text ≡ before_first is_space text
word_whole text i all before = sym (ap (λ (k : ℕ). take k text) (no_space text i all before) ∙ take_all (length text) text (omega arith))

-- a byte that is no space comes before the first one
word-cons : (x : ℕ) (xs : List ℕ) → is_space x ≡ false → before_first is_space (x ∷ xs) ≡ x ∷ before_first is_space xs
word-cons x xs e =
    let P : Bool → ℕ = λ (t : Bool). cond (not t) (1 + position_or_len is_space xs) 0 in
    let n : position_or_len is_space (x ∷ xs) ≡ suc (position_or_len is_space xs) = ap P e ∙ omega arith in
    ap (λ (k : ℕ). take k (x ∷ xs)) n

-- the first word of a text that begins with a word and a space
pub word-append : (xs ys : List ℕ) → list_any is_space xs ≡ false → before_first is_space (xs ++ 32 ∷ ys) ≡ xs
word-append [] ys h = refl
word-append (x ∷ xs) ys h = go (is_space x) refl (word-append xs ys) where
  go : (t : Bool) → is_space x ≡ t → (list_any is_space xs ≡ false → before_first is_space (xs ++ 32 ∷ ys) ≡ xs) → before_first is_space ((x ∷ xs) ++ 32 ∷ ys) ≡ x ∷ xs
  go true e later = (let no : list_any is_space (x ∷ xs) ≡ true = rw e refl in cc)
  go false e later =
      let rest : list_any is_space xs ≡ false = (let step : list_any is_space (x ∷ xs) ≡ list_any is_space xs = rw e refl in sym step ∙ h) in
      word-cons x (xs ++ 32 ∷ ys) e ∙ ap (λ (zs : List ℕ). x ∷ zs) (later rest)

-- ---- pieces put one behind another

pub joined_three : (out a b d e1 e2 e3 : List ℕ) → e1 ≡ out ++ a → e2 ≡ e1 ++ b → e3 ≡ e2 ++ d → e3 ≡ out ++ (a ++ b ++ d)
joined_three out a b d e1 e2 e3 p q r = r ∙ ap (λ (t : List ℕ). t ++ d) (q ∙ ap (λ (t : List ℕ). t ++ b) p) ∙ regroup out a b d where
  regroup : (out a b d : List ℕ) → ((out ++ a) ++ b) ++ d ≡ out ++ (a ++ b ++ d)
  regroup out a b d = simp append_assoc

pub joined_four : (out a b d f e1 e2 e3 e4 : List ℕ) → e1 ≡ out ++ a → e2 ≡ e1 ++ b → e3 ≡ e2 ++ d → e4 ≡ e3 ++ f → e4 ≡ out ++ (a ++ b ++ d ++ f)
joined_four out a b d f e1 e2 e3 e4 p q r s = s ∙ ap (λ (t : List ℕ). t ++ f) (r ∙ ap (λ (t : List ℕ). t ++ d) (q ∙ ap (λ (t : List ℕ). t ++ b) p)) ∙ regroup out a b d f where
  regroup : (out a b d f : List ℕ) → (((out ++ a) ++ b) ++ d) ++ f ≡ out ++ (a ++ b ++ d ++ f)
  regroup out a b d f = simp append_assoc
