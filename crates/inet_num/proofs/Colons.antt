-- The pieces between the colons of a text.
use Rattle.std.proofs.Common.{◌≡◌, ◌≢◌, ℕ, zero, suc, ◌+◌, ◌-◌, ◌<◌, ◌≤◌, refl, sym, ◌∙◌, ap, arith, Bool, true, false, ◌&&◌, cond, List, [], ◌∷◌, length, get_or, take, drop}
use Rattle.std.specs.List.{position_or_len, onto_first, count_by}
use Rattle.std.proofs.lemmas.Bool.Decides.{nat_tests}
use Rattle.std.proofs.lemmas.List.{take_rest, get_or_default}
use Rattle.std.proofs.lemmas.List.Sums.{position_or_len_is, sum_by-cons}
use Rattle.std.proofs.lemmas.List.Splits.{slice_split_first, slice_split_none}
use Rattle.inet_num.specs.declared.text.TextFault.TheVariants.{Group}
use Rattle.inet_num.specs.Fault.{is_colon, is_written, is_bad, pieces_of, last_of, colon_pairs_of, pieces_fault_of}

colon_at : (text : List ℕ) (i : ℕ) → i < length text → ((k : ℕ) → k < i → get_or text k 0 ≢ 58) → get_or text i 0 ≡ 58 → position_or_len is_colon text ≡ i
colon_at text i l before here = position_or_len_is is_colon text i 0 (omega arith)
    (λ k h. (let other = before k h in grind (arith, nat_tests))) (λ _. (grind (arith, nat_tests)))

-- the first piece ends before the first colon
pub piece_there : (text : List ℕ) (i : ℕ) → i < length text → ((k : ℕ) → k < i → get_or text k 0 ≢ 58) → get_or text i 0 ≡ 58 → pieces_of text ≡ take i text ∷ pieces_of (take (length text - (i + 1)) (drop (i + 1) text))
piece_there text i l before here =
    let e = colon_at text i l before here in
    let inner : position_or_len is_colon text < length text = omega arith in
    slice_split_first is_colon text 0 inner
    ∙ ap (λ (k : ℕ). take k text ∷ pieces_of (drop (k + 1) text)) e
    ∙ ap (λ (ys : List ℕ). take i text ∷ pieces_of ys) (sym (take_rest text (i + 1)))

-- without a colon the text is one piece
pub piece_alone : (text : List ℕ) (i : ℕ) → length text ≤ i → ((k : ℕ) → k < i → get_or text k 0 ≢ 58) → pieces_of text ≡ text ∷ []
piece_alone text i l before = slice_split_none is_colon text (λ k d h. (let other = before k (omega arith) in let same = get_or_default text k d 0 h in grind (arith, nat_tests)))

-- there is a piece
pub some_piece : (text : List ℕ) → (p : List ℕ) × (rest : List (List ℕ)) × (pieces_of text ≡ p ∷ rest)
some_piece [] = ([], [], refl)
some_piece (x ∷ xs) = go (is_colon x) (pieces_of xs) (some_piece xs) where
  go : (t : Bool) (ps : List (List ℕ)) → (p : List ℕ) × (rest : List (List ℕ)) × (ps ≡ p ∷ rest) → (p : List ℕ) × (rest : List (List ℕ)) × (cond t ([] ∷ ps) (onto_first x ps) ≡ p ∷ rest)
  go true ps h = ([], ps, refl)
  go false [] h = (x ∷ [], [], refl)
  go false (q ∷ qs) h = (x ∷ q, qs, refl)

-- the piece with which a text ends is that of what follows its first piece
pub last_later : (p text : List ℕ) → last_of (p ∷ pieces_of text) ≡ last_of (pieces_of text)
last_later p text = go (pieces_of text) (some_piece text) where
  go : (ps : List (List ℕ)) → (q : List ℕ) × (rest : List (List ℕ)) × (ps ≡ q ∷ rest) → last_of (p ∷ ps) ≡ last_of ps
  go [] h = (let e = h.2 in cc)
  go (q ∷ qs) h = refl

-- a good piece is passed over
pub fault_later : (p text : List ℕ) → is_bad p ≡ false → pieces_fault_of (p ∷ pieces_of text) ≡ pieces_fault_of (pieces_of text)
fault_later p text good = go (pieces_of text) (some_piece text) where
  go : (ps : List (List ℕ)) → (q : List ℕ) × (rest : List (List ℕ)) × (ps ≡ q ∷ rest) → pieces_fault_of (p ∷ ps) ≡ pieces_fault_of ps
  go [] h = (let e = h.2 in cc)
  go (q ∷ qs) h = rw good refl

-- a bad piece that is not the last is a bad group
pub fault_here : (p text : List ℕ) → is_bad p ≡ true → pieces_fault_of (p ∷ pieces_of text) ≡ Group
fault_here p text bad = go (pieces_of text) (some_piece text) where
  go : (ps : List (List ℕ)) → (q : List ℕ) × (rest : List (List ℕ)) × (ps ≡ q ∷ rest) → pieces_fault_of (p ∷ ps) ≡ Group
  go [] h = (let e = h.2 in cc)
  go (q ∷ qs) h = rw bad refl

-- one more piece
pub written-cons : (p : List ℕ) (ps : List (List ℕ)) → count_by is_written (p ∷ ps) ≡ cond (is_written p) 1 0 + count_by is_written ps
written-cons p ps = sum_by-cons (λ (q : List ℕ). cond (is_written q) 1 0) p ps

-- the colon pairs from here on
pub pairs_step : (text : List ℕ) (i : ℕ) → i < length text → colon_pairs_of (drop i text) ≡ cond (is_colon (get_or text i 0) && is_colon (get_or text (i + 1) 0)) 1 0 + colon_pairs_of (drop (i + 1) text)
pairs_step [] i h = absurd (omega arith)
pairs_step (a ∷ []) zero h = one (is_colon a) where
  one : (t : Bool) → 0 ≡ cond (t && false) 1 0 + 0
  one true = refl
  one false = refl
pairs_step (a ∷ b ∷ rest) zero h = refl
pairs_step (a ∷ text) (suc i) h = (let e : suc i + 1 ≡ suc (i + 1) = omega arith in rw e (pairs_step text i (omega arith)))
