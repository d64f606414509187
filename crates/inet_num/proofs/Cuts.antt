use Rattle.std.proofs.Common.{◌≡◌, ◌≢◌, ℕ, ◌+◌, ◌-◌, ◌*◌, ◌/◌, ◌^◌, ◌<◌, ◌≤◌, sym, ◌∙◌, ap, arith, List, [], ◌∷◌, ◌++◌, length, get_or, take, drop, decimal, bit_and, length-append}
use Rattle.std.specs.List.{position_or_len}
use Rattle.std.proofs.lemmas.Bool.Decides.{nat_tests}
use Rattle.std.proofs.lemmas.List.{take_rest}
use Rattle.std.proofs.lemmas.List.Sums.{position_or_len_is, split_at_first}
use Rattle.std.proofs.lemmas.Fmt.{decimal_injective}
use Rattle.std.proofs.Math.Nat.{mul-mod_left}
use Rattle.std.proofs.lemmas.Nat.{div-add-mod'}
use Rattle.inet_num.specs.Net.{Address, IsAddress, Cidr, IsBlock, width_of, block_at, block_around}
use Rattle.inet_num.specs.Text.{is_slash, front_of, HasNoSlash, EndsInLength}
use Rattle.inet_num.specs.declared.Family.{Family}
use Rattle.inet_num.specs.declared.Family.TheVariants.{V4, V6}
use Rattle.inet_num.proofs.Numbers.{and_ones}

pub at_slash : (text : List ℕ) (i : ℕ) → i < length text → ((k : ℕ) → k < i → get_or text k 0 ≢ 47) → get_or text i 0 ≡ 47 → position_or_len is_slash text ≡ i
at_slash text i l before here = position_or_len_is is_slash text i 0 (omega arith)
    (λ k h. (let other = before k h in grind (arith, nat_tests))) (λ _. (grind (arith, nat_tests)))

pub no_slash : (text : List ℕ) (i : ℕ) → length text ≤ i → i ≤ length text → ((k : ℕ) → k < i → get_or text k 0 ≢ 47) → position_or_len is_slash text ≡ length text
no_slash text i l u before = position_or_len_is is_slash text (length text) 0 (omega arith)
    (λ k h. (let other = before k (omega arith) in grind (arith, nat_tests))) (λ h. absurd (omega arith))

pub cut_there : (text : List ℕ) (i : ℕ) → i < length text → position_or_len is_slash text ≡ i → get_or text i 0 ≡ 47 → text ≡ front_of text ++ 47 ∷ take (length text - (i + 1)) (drop (i + 1) text)
cut_there text i l e here =
    let split = split_at_first is_slash text 0 (omega arith) in
    let middle : get_or text (position_or_len is_slash text) 0 ≡ 47 = ap (λ (k : ℕ). get_or text k 0) e ∙ here in
    let tail : drop (position_or_len is_slash text + 1) text ≡ take (length text - (i + 1)) (drop (i + 1) text) = ap (λ (k : ℕ). drop (k + 1) text) e ∙ sym (take_rest text (i + 1)) in
    split ∙ ap (λ (b : ℕ). front_of text ++ b ∷ drop (position_or_len is_slash text + 1) text) middle ∙ ap (λ (ys : List ℕ). front_of text ++ 47 ∷ ys) tail

pub not_longer : (text rest : List ℕ) → text ≡ text ++ 47 ∷ rest → ⊥
not_longer text rest e = omega (arith, ap length e, length-append text (47 ∷ rest))

-- with a slash in it the text is not all front
pub slash_stands : (text rest : List ℕ) → text ≡ front_of text ++ 47 ∷ rest → ¬ HasNoSlash text
slash_stands text rest cut none = not_longer text rest (cut ∙ ap (λ (f : List ℕ). f ++ 47 ∷ rest) none)

pub same_rest : (front a b : List ℕ) → front ++ 47 ∷ a ≡ front ++ 47 ∷ b → a ≡ b
same_rest [] a b e = cc
same_rest (x ∷ front) a b e = (let tails : front ++ 47 ∷ a ≡ front ++ 47 ∷ b = cc in same_rest front a b tails)

-- a number above the width is no length
pub too_long : (w : ℕ) (text : List ℕ) (l : ℕ) → w < 256 → text ≡ decimal l → l < 256 → w < l → (n : ℕ) → n ≤ w → text ≢ decimal n
too_long w text l narrow is small big n le e =
    let same : l ≡ n = decimal_injective l n (omega arith) (omega arith) (sym is ∙ e) in
    omega arith

-- a rest that is no length up to the width
pub no_length : (w : ℕ) (text rest : List ℕ) → text ≡ front_of text ++ 47 ∷ rest → ((n : ℕ) → n ≤ w → rest ≢ decimal n) → (len : ℕ) → len ≤ w → EndsInLength text len → ⊥
no_length w text rest cut none len le e = none len le (same_rest (front_of text) rest (decimal len) (sym cut ∙ e))

-- two lengths behind one slash are one
pub one_length : (text : List ℕ) (m n : ℕ) → m < 256 → n < 256 → EndsInLength text m → EndsInLength text n → m ≡ n
one_length text m n p q e f = decimal_injective m n (omega arith) (omega arith) (same_rest (front_of text) (decimal m) (decimal n) (sym e ∙ f))

pub width_narrow : (f : Family) → width_of f < 256
width_narrow V4 = omega arith
width_narrow V6 = omega arith

-- an address without a bit past the length is a block's first
pub lawful_at : (a : Address) (len ones : ℕ) → len ≤ width_of a.family → IsAddress a → ones + 1 ≡ 2 ^ (width_of a.family - len) → bit_and a.value ones ≡ 0 → IsBlock (block_at a len)
lawful_at a len ones short range e z = record { short = short; aligned = sym (and_ones a.value ones (width_of a.family - len) e) ∙ z; in_range = range }

-- the bits past the length, cleared
pub cleared_is : (n k ones : ℕ) → ones + 1 ≡ 2 ^ k → n - bit_and n ones ≡ n / 2 ^ k * 2 ^ k
cleared_is n k ones e = omega (arith, and_ones n ones k e, div-add-mod' n (2 ^ k))

pub around_is : (a : Address) (len ones : ℕ) → ones + 1 ≡ 2 ^ (width_of a.family - len) → block_at (record { family = a.family; value = a.value - bit_and a.value ones }) len ≡ block_around a len
around_is a len ones e = ap (λ (n : ℕ). let b : Cidr = record { family = a.family; first = n; len = len } in b) (cleared_is a.value (width_of a.family - len) ones e)

pub lawful_around : (a : Address) (len : ℕ) → len ≤ width_of a.family → IsAddress a → IsBlock (block_around a len)
lawful_around a len short range = record { short = short; aligned = mul-mod_left _ _; in_range = omega (arith, div-add-mod' a.value (2 ^ (width_of a.family - len))) }

pub not_lawful : (a : Address) (len ones : ℕ) → ones + 1 ≡ 2 ^ (width_of a.family - len) → bit_and a.value ones ≢ 0 → IsBlock (block_at a len) → ⊥
not_lawful a len ones e other h = other (and_ones a.value ones (width_of a.family - len) e ∙ h.aligned)

-- nothing past the length is set: nothing is cleared
pub none_cleared : (a : Address) (past : ℕ) → past ≡ 0 → a.value - past ≡ a.value
none_cleared a past z = omega arith
