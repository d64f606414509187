-- The labels of an owner: how they are put together, and that they spell one number.
use Rattle.std.proofs.Common.{◌≡◌, ◌≢◌, ℕ, zero, suc, ◌+◌, ◌-◌, ◌*◌, ◌/◌, ◌%◌, ◌^◌, ◌<◌, ◌≤◌, Bool, true, not, ◌&&◌, ◌||◌, ◌==◌, nat_le, nat_lt, List, [], ◌∷◌, ◌++◌, length, get_or, refl, ap, sym, ◌∙◌, subst, arith, append_assoc, decimal, lit<, mul_comm}
use Rattle.std.specs.List.{list_all}
use Rattle.std.specs.Char.{digit_char, to_ascii_lowercase}
use Rattle.std.proofs.lemmas.Bool.{and_parts}
use Rattle.std.specs.Str.Parse.{AllDigits}
use Rattle.std.proofs.lemmas.Bool.Decides.{nat_tests}
use Rattle.std.proofs.lemmas.Nat.{div-mul-add, mod-mul-add, mul-add-lt, div_below, mod_below, div-add-mod'}
use Rattle.std.proofs.lemmas.Str.Parse.{digit_from_value}
use Rattle.std.proofs.Math.Nat.{pow-suc, pow-zero, pow-le-pow_right}
use Rattle.inet_num.proofs.Decimals.{decimal_is}
use Rattle.std.proofs.lemmas.Fmt.{decimal_injective}
use Rattle.inet_num.specs.declared.Family.{Family}
use Rattle.inet_num.specs.declared.Family.TheVariants.{V4, V6}
use Rattle.inet_num.specs.Net.{Address, IsAddress, width_of}
use Rattle.reverse_zone.specs.Owners.{base_of, label_count_of, label_of, zone_of, labels_of, owner_of}
use Rattle.reverse_zone.proofs.Cuts.{Lacks, no_cut, cut_once}
use Rattle.reverse_zone.proofs.HostBytes.{IsPlainByte, AllPlain, plain_append}

-- ---- one label

pub base_positive : (family : Family) → 0 < base_of family
base_positive V4 = lit< tt
base_positive V6 = lit< tt

digits_lack : (ds : List ℕ) → AllDigits 10 ds → Lacks 46 ds
digits_lack [] h = tt
digits_lack (c ∷ ds) h = (λ e. let low = digit_from_value c h.0 in let least = low.0 in omega arith, digits_lack ds h.1)

nibble_lacks : (d : ℕ) → digit_char d ≢ 46
nibble_lacks d e = grind (arith, nat_tests)

nibble_once : (d e : ℕ) → d < 16 → e < 16 → digit_char d ≡ digit_char e → d ≡ e
nibble_once d e small low same = grind (arith, nat_tests)

pub label_lacks : (family : Family) (d : ℕ) → d < base_of family → Lacks 46 (label_of family d)
label_lacks V4 d small = digits_lack (decimal d) (decimal_is (decimal d) d small refl).digits
label_lacks V6 d small = (nibble_lacks d, tt)

label_once : (family : Family) (d e : ℕ) → d < base_of family → e < base_of family → label_of family d ≡ label_of family e → d ≡ e
label_once V4 d e small low same = decimal_injective d e (omega arith) (omega arith) same
label_once V6 d e small low same = nibble_once d e small low (cc)

-- ---- all labels

pub labels_end : (family : Family) (number : ℕ) → labels_of family 0 number ≡ zone_of family
unfolding labels_of
labels_end family number = refl

labels_suc : (family : Family) (count number : ℕ) → labels_of family (suc count) number ≡ label_of family (number % base_of family) ++ 46 ∷ labels_of family count (number / base_of family)
unfolding labels_of
labels_suc family count number = refl

-- the first label, and those behind it
pub labels_step : (family : Family) (count number : ℕ) → 0 < count → labels_of family count number ≡ label_of family (number % base_of family) ++ 46 ∷ labels_of family (count - 1) (number / base_of family)
labels_step family zero number some = absurd (omega arith)
labels_step family (suc count) number some =
    labels_suc family count number ∙ ap (λ (n : ℕ). label_of family (number % base_of family) ++ 46 ∷ labels_of family n (number / base_of family)) (let e : count ≡ suc count - 1 = omega arith in e)

-- a label before the labels of a number
pub labels_more : (family : Family) (count digit high : ℕ) → 0 < count → digit < base_of family
    → label_of family digit ++ 46 ∷ labels_of family (count - 1) high ≡ labels_of family count (high * base_of family + digit)
labels_more family count digit high some small =
    let base = base_of family in
    sym (labels_step family count (high * base + digit) some
    ∙ ap (λ (d : ℕ). label_of family d ++ 46 ∷ labels_of family (count - 1) ((high * base + digit) / base)) (mod-mul-add high base digit small)
    ∙ ap (λ (n : ℕ). label_of family digit ++ 46 ∷ labels_of family (count - 1) n) (div-mul-add high base digit small))

pow_step : (base count : ℕ) → 0 < count → base ^ count ≡ base ^ (count - 1) * base
pow_step base zero some = absurd (omega arith)
pow_step base (suc count) some = pow-suc base count ∙ ap (λ (n : ℕ). base ^ n * base) (let e : count ≡ suc count - 1 = omega arith in e)

pub number_more : (family : Family) (count digit high : ℕ) → 0 < count → digit < base_of family → high < base_of family ^ (count - 1)
    → high * base_of family + digit < base_of family ^ count
number_more family count digit high some small low =
    let base = base_of family in
    let e : base ^ count ≡ base * base ^ (count - 1) = pow_step base count some ∙ mul_comm (base ^ (count - 1)) base in
    subst (λ (n : ℕ). high * base + digit < n) (sym e) (mul-add-lt high base digit (base ^ (count - 1)) low small)

pub number_less : (family : Family) (count number : ℕ) → 0 < count → number < base_of family ^ count → number / base_of family < base_of family ^ (count - 1)
number_less family count number some low =
    let base = base_of family in
    div_below number base (base ^ (count - 1)) (base_positive family) (subst (λ (n : ℕ). number < n) (pow_step base count some) low)

-- ---- labels that are written one after another

-- one more label is written, and the others are left
pub one_more : (family : Family) (count left base : ℕ) (line next whole : List ℕ) → 0 < count → base ≡ base_of family
    → next ≡ line ++ (label_of family (left % base) ++ 46 ∷ []) → line ++ labels_of family count left ≡ whole → next ++ labels_of family (count - 1) (left / base) ≡ whole
one_more family count left base line next whole some e put all =
    let rest : List ℕ = labels_of family (count - 1) (left / base) in
    let label : List ℕ = label_of family (left % base) in
    let step : labels_of family count left ≡ label ++ 46 ∷ rest =
    subst (λ (b : ℕ). labels_of family count left ≡ label_of family (left % b) ++ 46 ∷ labels_of family (count - 1) (left / b)) (sym e) (labels_step family count left some) in
    ap (λ (text : List ℕ). text ++ rest) put ∙ append_assoc line (label ++ 46 ∷ []) rest ∙ ap (λ (text : List ℕ). line ++ text) (append_assoc label (46 ∷ []) rest ∙ sym step) ∙ all

-- no label is left, and the zone is written
pub all_put : (family : Family) (count left : ℕ) (line next zone whole : List ℕ) → count ≡ 0 → zone ≡ zone_of family
    → next ≡ line ++ zone → line ++ labels_of family count left ≡ whole → next ≡ whole
all_put family count left line next zone whole none z put all =
    let end : labels_of family count left ≡ zone_of family = ap (λ (n : ℕ). labels_of family n left) none ∙ labels_end family left in
    put ∙ ap (λ (text : List ℕ). line ++ text) (z ∙ sym end) ∙ all

-- ---- labels that are read

pub zone_read : (family : Family) (count : ℕ) (text zone : List ℕ) → count ≡ 0 → zone ≡ zone_of family → text ≡ zone → text ≡ labels_of family count 0
zone_read family count text zone none z e = e ∙ z ∙ sym (labels_end family 0) ∙ ap (λ (n : ℕ). labels_of family n 0) (sym none)

pub zone_only : (family : Family) (count number : ℕ) (text zone : List ℕ) → count ≡ 0 → zone ≡ zone_of family → text ≡ labels_of family count number → text ≡ zone
zone_only family count number text zone none z e = e ∙ ap (λ (n : ℕ). labels_of family n number) none ∙ labels_end family number ∙ sym z

pub no_labels : (family : Family) (count number : ℕ) (text : List ℕ) → 0 < count → Lacks 46 text → text ≢ labels_of family count number
no_labels family count number text some none e =
    no_cut 46 (label_of family (number % base_of family)) (labels_of family (count - 1) (number / base_of family)) (subst (Lacks 46) (e ∙ labels_step family count number some) none)

-- the first label of such a text, and what is behind it
pub first_label : (family : Family) (count number : ℕ) (text label rest : List ℕ) → 0 < count → text ≡ label ++ 46 ∷ rest → Lacks 46 label → text ≡ labels_of family count number
    → (label ≡ label_of family (number % base_of family)) × (rest ≡ labels_of family (count - 1) (number / base_of family))
first_label family count number text label rest some cut none e =
    let digit : ℕ = number % base_of family in
    cut_once 46 label rest (label_of family digit) (labels_of family (count - 1) (number / base_of family)) none
    (label_lacks family digit (mod_below number (base_of family) (base_positive family))) (sym cut ∙ e ∙ labels_step family count number some)

pub no_digit : (family : Family) (count number : ℕ) (text label rest : List ℕ) → 0 < count → text ≡ label ++ 46 ∷ rest → Lacks 46 label
    → ((digit : ℕ) → digit < base_of family → label ≢ label_of family digit) → text ≢ labels_of family count number
no_digit family count number text label rest some cut none other e =
    other (number % base_of family) (mod_below number (base_of family) (base_positive family)) (first_label family count number text label rest some cut none e).0

pub no_rest : (family : Family) (count number : ℕ) (text label rest : List ℕ) → 0 < count → text ≡ label ++ 46 ∷ rest → Lacks 46 label
    → ((high : ℕ) → high < base_of family ^ (count - 1) → rest ≢ labels_of family (count - 1) high) → number < base_of family ^ count → text ≢ labels_of family count number
no_rest family count number text label rest some cut none other small e =
    other (number / base_of family) (number_less family count number some small) (first_label family count number text label rest some cut none e).1

pub labels_read : (family : Family) (count digit high base low : ℕ) (text label rest : List ℕ) → 0 < count → base ≡ base_of family → low ≡ digit → digit < base_of family
    → text ≡ label ++ 46 ∷ rest → label ≡ label_of family digit → rest ≡ labels_of family (count - 1) high → text ≡ labels_of family count (high * base + low)
labels_read family count digit high base low text label rest some b l small cut first behind =
    cut ∙ ap (λ (t : List ℕ). t ++ 46 ∷ rest) first ∙ ap (λ (t : List ℕ). label_of family digit ++ 46 ∷ t) behind
    ∙ labels_more family count digit high some small
    ∙ ap (λ (n : ℕ). labels_of family count (high * n + digit)) (sym b) ∙ ap (λ (n : ℕ). labels_of family count (high * base + n)) (sym l)

pub number_read : (family : Family) (count digit high base low : ℕ) → 0 < count → base ≡ base_of family → low ≡ digit → digit < base_of family → high < base_of family ^ (count - 1)
    → high * base + low < base_of family ^ count
number_read family count digit high base low some b l small less =
    subst (λ (n : ℕ). high * base + n < base_of family ^ count) (sym l)
    (subst (λ (n : ℕ). high * n + digit < base_of family ^ count) (sym b) (number_more family count digit high some small less))

count_fits : (family : Family) (count : ℕ) → count ≤ label_count_of family → base_of family ^ count ≤ 2 ^ 128
count_fits V4 count few = let high : 256 ^ count ≤ 256 ^ 4 = pow-le-pow_right (lit< tt) few in omega arith
count_fits V6 count few = let high : 16 ^ count ≤ 16 ^ 32 = pow-le-pow_right (lit< tt) few in omega arith

pub sum_fits : (family : Family) (count digit high base low : ℕ) → 0 < count → count ≤ label_count_of family → base ≡ base_of family → low ≡ digit → digit < base_of family → high < base_of family ^ (count - 1)
    → high * base + low < 2 ^ 128
sum_fits family count digit high base low some few b l small less =
    let whole = number_read family count digit high base low some b l small less in
    let most = count_fits family count few in omega arith

pub product_fits : (family : Family) (count high base : ℕ) → 0 < count → count ≤ label_count_of family → base ≡ base_of family → high < base_of family ^ (count - 1) → high * base < 2 ^ 128
product_fits family count high base some few b less =
    let sum = sum_fits family count 0 high base 0 some few b refl (base_positive family) less in omega arith

-- ---- two owners

labels_once : (family : Family) (count m n : ℕ) → m < base_of family ^ count → n < base_of family ^ count → labels_of family count m ≡ labels_of family count n → m ≡ n
labels_once family zero m n low less e =
    let one : base_of family ^ 0 ≡ 1 = pow-zero (base_of family) in omega arith
labels_once family (suc count) m n low less e =
    let base = base_of family in
    let some : 0 < suc count = omega arith in
    let less-one : suc count - 1 ≡ count = omega arith in
    let parts = cut_once 46 (label_of family (m % base)) (labels_of family count (m / base)) (label_of family (n % base)) (labels_of family count (n / base))
    (label_lacks family (m % base) (mod_below m base (base_positive family))) (label_lacks family (n % base) (mod_below n base (base_positive family)))
    (sym (labels_suc family count m) ∙ e ∙ labels_suc family count n) in
    let lows : m % base ≡ n % base = label_once family (m % base) (n % base) (mod_below m base (base_positive family)) (mod_below n base (base_positive family)) parts.0 in
    let highs : m / base ≡ n / base = labels_once family count (m / base) (n / base)
    (subst (λ (k : ℕ). m / base < base ^ k) less-one (number_less family (suc count) m some low))
    (subst (λ (k : ℕ). n / base < base ^ k) less-one (number_less family (suc count) n some less)) parts.1 in
    sym (div-add-mod' m base) ∙ ap (λ (k : ℕ). k * base + m % base) highs ∙ ap (λ (k : ℕ). n / base * base + k) lows ∙ div-add-mod' n base

other_byte : (c d : ℕ) → c ≡ 110 → d ≡ 46 → c ≢ d
other_byte c d a b e = omega arith

labels_apart : (count most m n : ℕ) → count < most → labels_of V4 count m ≢ labels_of V6 most n
labels_apart zero most m n less e =
    let same : zone_of V4 ≡ digit_char (n % 16) ∷ 46 ∷ labels_of V6 (most - 1) (n / 16) = sym (labels_end V4 m) ∙ e ∙ labels_step V6 most n less in
    other_byte 110 46 refl refl (ap (λ (text : List ℕ). get_or text 1 0) same)
labels_apart (suc count) most m n less e =
    let low : suc count ≤ most = omega arith in
    let parts = cut_once 46 (label_of V4 (m % 256)) (labels_of V4 count (m / 256)) (label_of V6 (n % 16)) (labels_of V6 (most - 1) (n / 16))
    (label_lacks V4 (m % 256) (mod_below m 256 (lit< tt))) (label_lacks V6 (n % 16) (mod_below n 16 (lit< tt)))
    (sym (labels_suc V4 count m) ∙ e ∙ labels_step V6 most n (omega arith)) in
    labels_apart count (most - 1) (m / 256) (n / 16) (omega arith) parts.1

owners_once : (f g : Family) (m n : ℕ) → m < 2 ^ width_of f → n < 2 ^ width_of g → labels_of f (label_count_of f) m ≡ labels_of g (label_count_of g) n
    → (f ≡ g) × (m ≡ n)
owners_once V4 V4 m n low less e = (refl, labels_once V4 4 m n low less e)
owners_once V6 V6 m n low less e = (refl, labels_once V6 32 m n low less e)
owners_once V4 V6 m n low less e = absurd (labels_apart 4 32 m n (lit< tt) e)
owners_once V6 V4 m n low less e = absurd (labels_apart 4 32 n m (lit< tt) (sym e))

pub owner_once : (a b : Address) → IsAddress a → IsAddress b → owner_of a ≡ owner_of b → a ≡ b
owner_once a b low less e =
    let parts = owners_once a.family b.family a.value b.value low less e in
    let family = parts.0 in
    let value = parts.1 in
    ap (λ (f : Family). let x : Address = record { family = f; value = a.value } in x) family ∙ ap (λ (n : ℕ). let x : Address = record { family = b.family; value = n } in x) value

-- ---- the bytes of an owner

unfoldable pub plain_test : ℕ → Bool
plain_test c = nat_le 33 c && nat_lt c 128 && not (c == 59) && (nat_lt c 65 || nat_lt 90 c)

plain_numbers : (c : ℕ) → plain_test c ≡ true → (33 ≤ c) × (c < 128) × (c ≢ 59) × (to_ascii_lowercase c ≡ c)
unfolding plain_test
plain_numbers c e = grind (arith, nat_tests)

pub plain_byte : (c : ℕ) → plain_test c ≡ true → IsPlainByte c
plain_byte c e = let h = plain_numbers c e in record { host = record { above = h.0; ascii = h.1; other = h.2 }; lower = h.3 }

pub plain_text : (text : List ℕ) → list_all plain_test text ≡ true → AllPlain text
plain_text [] e = tt
plain_text (c ∷ text) e = let both = and_parts (plain_test c) (list_all plain_test text) e in (plain_byte c both.0, plain_text text both.1)

zone_plain : (family : Family) → AllPlain (zone_of family)
unfolding plain_test
zone_plain V4 = plain_text (zone_of V4) refl
zone_plain V6 = plain_text (zone_of V6) refl

plain_digit : (c : ℕ) → 48 ≤ c → c ≤ 57 → plain_test c ≡ true
unfolding plain_test
plain_digit c low high = grind (arith, nat_tests)

plain_nibble : (d : ℕ) → d < 16 → plain_test (digit_char d) ≡ true
unfolding plain_test
plain_nibble d small = grind (arith, nat_tests)

digits_plain : (ds : List ℕ) → AllDigits 10 ds → AllPlain ds
digits_plain [] h = tt
digits_plain (c ∷ ds) h = let low = digit_from_value c h.0 in (plain_byte c (plain_digit c low.0 low.1), digits_plain ds h.1)

label_plain : (family : Family) (d : ℕ) → d < base_of family → AllPlain (label_of family d)
label_plain V4 d small = digits_plain (decimal d) (decimal_is (decimal d) d small refl).digits
label_plain V6 d small = (plain_byte (digit_char d) (plain_nibble d small), tt)

pub dot_plain : plain_test 46 ≡ true
unfolding plain_test
dot_plain = refl

labels_plain : (family : Family) (count number : ℕ) → AllPlain (labels_of family count number)
labels_plain family zero number = subst AllPlain (sym (labels_end family number)) (zone_plain family)
labels_plain family (suc count) number =
    subst AllPlain (sym (labels_suc family count number))
    (plain_append (label_of family (number % base_of family)) (46 ∷ labels_of family count (number / base_of family))
    (label_plain family (number % base_of family) (mod_below number (base_of family) (base_positive family)))
    (plain_byte 46 dot_plain, labels_plain family count (number / base_of family)))

pub owner_plain : (a : Address) → AllPlain (owner_of a)
owner_plain a = labels_plain a.family (label_count_of a.family) a.value

some_labels : (family : Family) → 0 < label_count_of family
some_labels V4 = lit< tt
some_labels V6 = lit< tt

cut_some : (front rest : List ℕ) → 0 < length (front ++ 46 ∷ rest)
cut_some [] rest = omega arith
cut_some (c ∷ front) rest = omega arith

pub owner_some : (a : Address) → 0 < length (owner_of a)
owner_some a =
    let base = base_of a.family in
    let count = label_count_of a.family in
    subst (λ (text : List ℕ). 0 < length text) (sym (labels_step a.family count a.value (some_labels a.family)))
    (cut_some (label_of a.family (a.value % base)) (labels_of a.family (count - 1) (a.value / base)))
