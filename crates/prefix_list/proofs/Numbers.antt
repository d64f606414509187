-- Numbers of one to ten digits, and what follows them on a line.
use Rattle.std.proofs.Common.{◌≡◌, ◌≢◌, ℕ, ◌+◌, ◌^◌, ◌<◌, ◌≤◌, refl, sym, ◌∙◌, ap, subst, arith, inl, inr, Bool, true, false, not, ◌&&◌, nat_le, nat_lt, nat_eq, List, [], ◌∷◌, ◌++◌, length, get_or, decimal, codes, append_assoc, Option, Some, None, MatchOption, IfSome, IfNone, Bor}
use Rattle.std.specs.Char.{is_ascii_digit}
use Rattle.std.specs.List.{list_any, list_all, before_first}
use Rattle.std.specs.Str.Parse.{digits_value}
use Rattle.std.proofs.lemmas.Bool.{and_parts, and_from, and_left, cases_lt, cases_Bool, not_from_false, not-true}
use Rattle.std.proofs.lemmas.Bool.Decides.{nat_tests}
use Rattle.std.proofs.lemmas.Fmt.{decimal-digits_value, digits_decimal, length-decimal-le, decimal_nonempty, first_decimal}
use Rattle.std.proofs.lemmas.List.{append_cancel_left}
use Rattle.std.proofs.lemmas.Str.Parse.{IsNumeralModel, IsDigitsTest, numerals_by_value, digits_value_short}
use Rattle.prefix_list.specs.declared.styles.Style.{Style}
use Rattle.prefix_list.specs.declared.styles.Style.TheVariants.{Plain, Ios, Junos}
use Rattle.prefix_list.specs.Styles.{number_of}
use Rattle.prefix_list.specs.Forms.{is_space, is_number}
use Rattle.prefix_list.proofs.Bytes.{word-append}

abbrev AreDigits : List ℕ → Type 0
AreDigits ds = list_all is_ascii_digit ds ≡ true

tests : IsDigitsTest AreDigits
tests = record {
  empty = refl;
  parts = λ c cs h. (let p = and_parts (is_ascii_digit c) (list_all is_ascii_digit cs) h in let e = p.0 in ((grind (arith, nat_tests), grind (arith, nat_tests)), p.1));
  more = λ c cs r h. (let low = r.0 in let high = r.1 in and_from (is_ascii_digit c) (list_all is_ascii_digit cs) (grind (arith, nat_tests)) h);
}

own : IsNumeralModel AreDigits (digits_value 10)
own = numerals_by_value AreDigits tests

wide : (n : ℕ) → n < 10000000000 → n < 2 ^ 64
wide n h = omega arith

-- what such a text says
record IsShort (text : List ℕ) : Type 0 where
  some : 1 ≤ length text
  few : length text ≤ 10
  lead : 1 < length text → get_or text 0 0 ≢ 48
  digits : AreDigits text

parts : (text : List ℕ) → is_number text ≡ true → IsShort text
parts text h =
    let a = and_parts (nat_le 1 (length text) && nat_le (length text) 10 && not (nat_lt 1 (length text) && nat_eq (get_or text 0 0) 48)) (list_all is_ascii_digit text) h in
    let b = and_parts (nat_le 1 (length text) && nat_le (length text) 10) (not (nat_lt 1 (length text) && nat_eq (get_or text 0 0) 48)) a.0 in
    let d = and_parts (nat_le 1 (length text)) (nat_le (length text) 10) b.0 in
    let some = d.0 in
    let few = d.1 in
    let lead = b.1 in
    record {
      some = grind (arith, nat_tests);
      few = grind (arith, nat_tests);
      lead = λ long zero_first. (let one : nat_lt 1 (length text) ≡ true = grind (arith, nat_tests) in let two : nat_eq (get_or text 0 0) 48 ≡ true = grind (arith, nat_tests) in grind arith);
      digits = a.1;
    }

and_false : (t : Bool) → (t && false) ≡ false
and_false true = refl
and_false false = refl

joined : (text : List ℕ) → IsShort text → is_number text ≡ true
joined text h =
    let some : nat_le 1 (length text) ≡ true = (let s = h.some in grind (arith, nat_tests)) in
    let few : nat_le (length text) 10 ≡ true = (let s = h.few in grind (arith, nat_tests)) in
    let lead : (nat_lt 1 (length text) && nat_eq (get_or text 0 0) 48) ≡ false = elim (cases_lt 1 (length text)) [
      | inl long ↦ (let other = h.lead long in let two : nat_eq (get_or text 0 0) 48 ≡ false = grind (arith, nat_tests) in rw two (and_false (nat_lt 1 (length text))))
      | inr le ↦ (let one : nat_lt 1 (length text) ≡ false = grind (arith, nat_tests) in rw one refl)
    ] in
    let digits = h.digits in
    rw (some, few, lead, digits) refl

-- the text of a number below ten to the ten is one to ten digits without a leading zero
pub number_from : (text : List ℕ) (n : ℕ) → n < 10000000000 → text ≡ decimal n → is_number text ≡ true
number_from text n small e = subst (λ (t : List ℕ). is_number t ≡ true) (sym e) (joined (decimal n) (record {
  some = (let h = decimal_nonempty n (wide n small) in omega arith);
  few = length-decimal-le 10 n (omega arith) (omega arith) (wide n small);
  lead = λ long zero_first. elim (cases_lt 0 n) [
    | inl some ↦ (let f = first_decimal n some (wide n small) in absurd (omega arith))
    | inr none ↦ (let l = length-decimal-le 1 n (omega arith) (omega arith) (wide n small) in absurd (omega arith))
  ];
  digits = digits_decimal own n (wide n small);
}))

-- and the other way round
pub number_to : (text : List ℕ) → is_number text ≡ true → (n : ℕ) × (n < 10000000000) × (text ≡ decimal n)
number_to text h =
    let p = parts text h in
    let few = p.few in
    let some = p.some in
    let short : digits_value 10 text < 10 ^ 10 = digits_value_short own text 10 p.digits p.few in (
      digits_value 10 text,
      omega arith,
      sym (decimal-digits_value own text p.digits (omega arith)
          (λ z. (elim (cases_lt 1 (length text)) [ inl long ↦ absurd (p.lead long z) | inr le ↦ omega arith ])) (omega arith)),
    )

-- ---- what follows a number

no_space_digits : (ds : List ℕ) → AreDigits ds → list_any is_space ds ≡ false
no_space_digits [] h = refl
no_space_digits (c ∷ cs) h =
    let p = and_parts (is_ascii_digit c) (list_all is_ascii_digit cs) h in
    let e = p.0 in
    let rest = no_space_digits cs p.1 in
    let here : is_space c ≡ false = grind (arith, nat_tests) in
    rw (here, rest) refl

no_space_decimal : (n : ℕ) → n < 10000000000 → list_any is_space (decimal n) ≡ false
no_space_decimal n h = no_space_digits (decimal n) (digits_decimal own n (wide n h))

-- the first word of a text that begins with a number and `permit`
pub word_is : (text rest : List ℕ) (n : ℕ) → n < 10000000000 → text ≡ (decimal n ++ codes " permit ") ++ rest → before_first is_space text ≡ decimal n
word_is text rest n small e = ap (before_first is_space) (e ∙ append_assoc (decimal n) (codes " permit ") rest) ∙ word-append (decimal n) (codes "permit " ++ rest) (no_space_decimal n small)

pub joined_word : (text word rest more : List ℕ) (n : ℕ) → text ≡ word ++ rest → word ≡ decimal n → rest ≡ codes " permit " ++ more → text ≡ (decimal n ++ codes " permit ") ++ more
joined_word text word rest more n whole is begins =
    whole ∙ ap (λ (w : List ℕ). w ++ rest) is ∙ ap (λ (r : List ℕ). decimal n ++ r) begins ∙ sym (append_assoc (decimal n) (codes " permit ") more)

-- where the first word is no number, no number begins the text
pub no_number : (text word : List ℕ) → word ≡ before_first is_space text → is_number word ≡ false
    → (n : ℕ) (rest : List ℕ) → n < 10000000000 → text ≢ (decimal n ++ codes " permit ") ++ rest
no_number text word is none n rest small e =
    let yes = number_from word n small (is ∙ word_is text rest n small e) in
    cc

-- nor where the rest does not begin with `permit`
pub no_permit : (text word more : List ℕ) → word ≡ before_first is_space text → text ≡ word ++ more → ((rest : List ℕ) → more ≢ codes " permit " ++ rest)
    → (n : ℕ) (rest : List ℕ) → n < 10000000000 → text ≢ (decimal n ++ codes " permit ") ++ rest
no_permit text word more is whole none n rest small e =
    let same : word ≡ decimal n = is ∙ word_is text rest n small e in
    none rest (append_cancel_left (decimal n) more (codes " permit " ++ rest)
    (sym (ap (λ (w : List ℕ). w ++ more) same) ∙ sym whole ∙ e ∙ append_assoc (decimal n) (codes " permit ") rest))

-- what follows the number is one text
pub behind_is_one : (style : Style) (m n : ℕ) (s t : List ℕ) → m < 10000000000 → n < 10000000000 → number_of style m ++ s ≡ number_of style n ++ t → s ≡ t
behind_is_one Plain m n s t p q e = e
behind_is_one Junos m n s t p q e = e
behind_is_one Ios m n s t p q e =
    let one = word_is (number_of Ios m ++ s) s m p refl in
    let other = word_is (number_of Ios m ++ s) t n q e in
    let same : decimal m ≡ decimal n = sym one ∙ other in
    append_cancel_left (decimal n ++ codes " permit ") s t (sym (ap (λ (d : List ℕ). (d ++ codes " permit ") ++ s) same) ∙ e)

-- where the first word is a number, what follows `permit` in the rest
pub permit_some : (text word more : List ℕ) (r : Option (Bor (List ℕ))) → MatchOption r ((rest : List ℕ) → more ≢ codes " permit " ++ rest) (λ x. more ≡ codes " permit " ++ x.now)
    → text ≡ word ++ more → is_number word ≡ true → IfSome r (λ rest. (n : ℕ) × (n < 10000000000) × (text ≡ (decimal n ++ codes " permit ") ++ rest.now))
permit_some text word more (Some x) h whole good = (let n = number_to word good in (n.0, n.1, joined_word text word more x.now n.0 whole n.2 h))
permit_some text word more None h whole good = tt

pub permit_none : (text word more : List ℕ) (r : Option (Bor (List ℕ))) → MatchOption r ((rest : List ℕ) → more ≢ codes " permit " ++ rest) (λ x. more ≡ codes " permit " ++ x.now)
    → word ≡ before_first is_space text → text ≡ word ++ more
    → IfNone r ((n : ℕ) (rest : List ℕ) → n < 10000000000 → text ≢ (decimal n ++ codes " permit ") ++ rest)
permit_none text word more (Some x) h is whole = tt
permit_none text word more None h is whole = no_permit text word more is whole h
