use Rattle.std.proofs.Common.{◌≡◌, ◌≢◌, ℕ, zero, suc, ◌^◌, ◌<◌, ◌≤◌, sym, subst, arith, inl, inr, List, [], ◌∷◌, length, get_or, decimal}
use Rattle.std.proofs.lemmas.Bool.{cases_lt}
use Rattle.std.specs.Char.{digit_value}
use Rattle.std.specs.Str.Parse.{AllDigits, digits_value}
use Rattle.std.proofs.lemmas.Str.Parse.{IsNumeralModel, numerals_by_value, tells_digits, digits_value_short}
use Rattle.std.proofs.lemmas.Fmt.{decimal-digits_value, digits_value-decimal, digits_decimal, length-decimal-le, decimal_nonempty, first_decimal}

own : IsNumeralModel (AllDigits 10) (digits_value 10)
own = numerals_by_value (AllDigits 10) tells_digits

-- what is known of the text of a number below 256
pub record IsDecimal (text : List ℕ) (n : ℕ) : Type 0 where
  pub some : 1 ≤ length text
  pub few : length text ≤ 3
  pub lead : 1 < length text → get_or text 0 0 ≢ 48
  pub digits : AllDigits 10 text
  pub value : digits_value 10 text ≡ n

wide : (n : ℕ) → n < 256 → n < 2 ^ 64
wide n h = omega arith

pub decimal_is : (text : List ℕ) (n : ℕ) → n < 256 → text ≡ decimal n → IsDecimal text n
decimal_is text n small e = subst (λ (t : List ℕ). IsDecimal t n) (sym e) (record {
  some = (let h = decimal_nonempty n (wide n small) in omega arith);
  few = length-decimal-le 3 n (omega arith) (omega arith) (wide n small);
  lead = λ long zero_first. elim (cases_lt 0 n) [
    | inl some ↦ (let f = first_decimal n some (wide n small) in absurd (omega arith))
    | inr none ↦ (let l = length-decimal-le 1 n (omega arith) (omega arith) (wide n small) in absurd (omega arith))
  ];
  digits = digits_decimal own n (wide n small);
  value = digits_value-decimal own n (wide n small);
})

-- such a text is that of its value
pub decimal_of : (text : List ℕ) → AllDigits 10 text → 1 ≤ length text → length text ≤ 3 → (1 < length text → get_or text 0 0 ≢ 48) → text ≡ decimal (digits_value 10 text)
decimal_of text digits some few lead =
    let short : digits_value 10 text < 10 ^ 3 = digits_value_short own text 3 digits few in
    sym (decimal-digits_value own text digits (omega arith) (λ z. (elim (cases_lt 1 (length text)) [ inl long ↦ absurd (lead long z) | inr le ↦ omega arith ])) (omega arith))

pub digit_at : (text : List ℕ) (i : ℕ) → AllDigits 10 text → i < length text → digit_value (get_or text i 0) < 10
digit_at [] i h l = absurd (omega arith)
digit_at (c ∷ text) zero h l = h.0
digit_at (c ∷ text) (suc i) h l = digit_at text i h.1 (omega arith)

-- three digits write less than a thousand
pub value_short : (text : List ℕ) (k : ℕ) → AllDigits 10 text → length text ≤ k → digits_value 10 text < 10 ^ k
value_short text k h l = digits_value_short own text k h l
