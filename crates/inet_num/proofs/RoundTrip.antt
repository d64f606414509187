-- What is written of an address or a block is read as that one.
use Rattle.std.proofs.Common.{◌≡◌, ℕ, zero, suc, get_or, ◌+◌, ◌^◌, ◌<◌, List, [], ◌∷◌, ◌++◌, take, refl, sym, ◌∙◌, ap, subst, arith, Bool, true, false, not, cond, decimal, All, inl, inr}
use Rattle.std.specs.Int.{w32, w128, to_be_bytes}
use Rattle.std.specs.Int.Digits.{number_from_digits}
use Rattle.std.specs.List.{list_any, position_or_len}
use Rattle.std.specs.Char.{digit_value}
use Rattle.std.specs.Str.Parse.{AllDigits}
use Rattle.std.specs.Net.Text.{dotted_text}
use Rattle.std.specs.Net.Addr.{segments_of}
use Rattle.std.proofs.NetLemmas.Texts.{IsDotted-ipv4_text, IsColonHex-hex_groups_text}
use Rattle.std.proofs.NetLemmas.Alphabet.{IsHexOrColon, All-hex_groups_text}
use Rattle.std.proofs.lemmas.Bool.Decides.{nat_tests}
use Rattle.std.proofs.lemmas.List.Folds.{list_any-append, list_any_none}
use Rattle.inet_num.specs.declared.Family.{Family}
use Rattle.inet_num.specs.declared.Family.TheVariants.{V4, V6}
use Rattle.inet_num.specs.Net.{width_of}
use Rattle.inet_num.specs.Text.{Spells, canonical_text_of, block_text_of, is_slash, front_of, HasNoSlash, WritingIsRead, WrittenAddressIsRead}
use Rattle.inet_num.proofs.Decimals.{decimal_is}

-- the value of the octets of a number is the number
octets_value : (n : ℕ) → n < 2 ^ 32 → n ≡ number_from_digits 256 (to_be_bytes w32 n)
octets_value n h = omega arith

-- four bytes are below 256, and past them there is 0
four_small : (a b c d : ℕ) → a < 256 → b < 256 → c < 256 → d < 256 → (k : ℕ) → get_or (a ∷ b ∷ c ∷ d ∷ []) k 0 < 256
four_small a b c d p q r s zero = p
four_small a b c d p q r s (suc zero) = q
four_small a b c d p q r s (suc (suc zero)) = r
four_small a b c d p q r s (suc (suc (suc zero))) = s
four_small a b c d p q r s (suc (suc (suc (suc k)))) = omega arith

pub quad_round : (n : ℕ) → n < 2 ^ 32 → Spells (canonical_text_of V4 n) V4 n
quad_round n h = (to_be_bytes w32 n, IsDotted-ipv4_text (to_be_bytes w32 n) refl (four_small _ _ _ _ (omega arith) (omega arith) (omega arith) (omega arith)), octets_value n h)

-- the value of the groups of a number is the number
groups_value : (n : ℕ) → n < 2 ^ 128 → n ≡ number_from_digits 65536 (segments_of (to_be_bytes w128 n))
groups_value n h = omega arith

-- eight groups are below 65536, and past them there is 0
eight_small : (a b c d e f g h : ℕ) → a < 65536 → b < 65536 → c < 65536 → d < 65536 → e < 65536 → f < 65536 → g < 65536 → h < 65536 → (k : ℕ) → get_or (a ∷ b ∷ c ∷ d ∷ e ∷ f ∷ g ∷ h ∷ []) k 0 < 65536
eight_small a b c d e f g h p q r s t u v w zero = p
eight_small a b c d e f g h p q r s t u v w (suc zero) = q
eight_small a b c d e f g h p q r s t u v w (suc (suc zero)) = r
eight_small a b c d e f g h p q r s t u v w (suc (suc (suc zero))) = s
eight_small a b c d e f g h p q r s t u v w (suc (suc (suc (suc zero)))) = t
eight_small a b c d e f g h p q r s t u v w (suc (suc (suc (suc (suc zero))))) = u
eight_small a b c d e f g h p q r s t u v w (suc (suc (suc (suc (suc (suc zero)))))) = v
eight_small a b c d e f g h p q r s t u v w (suc (suc (suc (suc (suc (suc (suc zero))))))) = w
eight_small a b c d e f g h p q r s t u v w (suc (suc (suc (suc (suc (suc (suc (suc k)))))))) = omega arith

groups_small : (n : ℕ) → n < 2 ^ 128 → (k : ℕ) → get_or (segments_of (to_be_bytes w128 n)) k 0 < 65536
groups_small n h = eight_small _ _ _ _ _ _ _ _ (omega arith) (omega arith) (omega arith) (omega arith) (omega arith) (omega arith) (omega arith) (omega arith)

pub groups_round : (n : ℕ) → n < 2 ^ 128 → Spells (canonical_text_of V6 n) V6 n
groups_round n h = (segments_of (to_be_bytes w128 n), IsColonHex-hex_groups_text (segments_of (to_be_bytes w128 n)) refl (groups_small n h), groups_value n h)

pub address_round : (f : Family) (n : ℕ) → n < 2 ^ width_of f → Spells (canonical_text_of f n) f n
address_round V4 n h = quad_round n h
address_round V6 n h = groups_round n h

-- digits have no slash among them
no_slash_digits : (text : List ℕ) → AllDigits 10 text → list_any is_slash text ≡ false
no_slash_digits [] h = refl
no_slash_digits (c ∷ text) h =
    let low : digit_value c < 10 = h.0 in
    let rest = no_slash_digits text h.1 in
    let here : is_slash c ≡ false = grind (arith, nat_tests) in
    rw (here, rest) refl

no_slash_decimal : (n : ℕ) → n < 256 → list_any is_slash (decimal n) ≡ false
no_slash_decimal n h = no_slash_digits (decimal n) (decimal_is (decimal n) n h refl).digits

no_slash_more : (xs ys : List ℕ) → list_any is_slash xs ≡ false → list_any is_slash ys ≡ false → list_any is_slash (xs ++ ys) ≡ false
no_slash_more xs ys h k = list_any-append is_slash xs ys ∙ (rw (h, k) refl)

-- a dotted text has no slash
no_slash_dotted : (a b c d : ℕ) → a < 256 → b < 256 → c < 256 → d < 256 → list_any is_slash (dotted_text a b c d) ≡ false
no_slash_dotted a b c d p q r s =
    let fa = no_slash_decimal a p in
    let fb = no_slash_decimal b q in
    let fc = no_slash_decimal c r in
    let fd = no_slash_decimal d s in
    simp (list_any-append, fa, fb, fc, fd)

-- a byte that is no slash stands before the first one
front-cons : (x : ℕ) (xs : List ℕ) → is_slash x ≡ false → front_of (x ∷ xs) ≡ x ∷ front_of xs
front-cons x xs e =
    let P : Bool → ℕ = λ (t : Bool). cond (not t) (1 + position_or_len is_slash xs) 0 in
    let n : position_or_len is_slash (x ∷ xs) ≡ suc (position_or_len is_slash xs) = ap P e ∙ omega arith in
    ap (λ (k : ℕ). take k (x ∷ xs)) n

-- what stands before the first slash of a text with none before that one
pub front-append : (xs ys : List ℕ) → list_any is_slash xs ≡ false → front_of (xs ++ 47 ∷ ys) ≡ xs
front-append [] ys h = refl
front-append (x ∷ xs) ys h = go (is_slash x) refl (front-append xs ys) where
  go : (t : Bool) → is_slash x ≡ t → (list_any is_slash xs ≡ false → front_of (xs ++ 47 ∷ ys) ≡ xs) → front_of ((x ∷ xs) ++ 47 ∷ ys) ≡ x ∷ xs
  go true e later = (let no : list_any is_slash (x ∷ xs) ≡ true = rw e refl in cc)
  go false e later =
      let rest : list_any is_slash xs ≡ false = (let step : list_any is_slash (x ∷ xs) ≡ list_any is_slash xs = rw e refl in sym step ∙ h) in
      front-cons x (xs ++ 47 ∷ ys) e ∙ ap (λ (zs : List ℕ). x ∷ zs) (later rest)

-- a hexadecimal digit or a colon is no slash
no_slash_byte : (c : ℕ) → IsHexOrColon c → is_slash c ≡ false
no_slash_byte c (inl h) = grind (arith, nat_tests)
no_slash_byte c (inr h) = grind (arith, nat_tests)

no_slash_hex : (text : List ℕ) → All IsHexOrColon text → list_any is_slash text ≡ false
no_slash_hex text h = list_any_none is_slash text (λ k d l. no_slash_byte _ (h k d l))

no_slash_address : (f : Family) (n : ℕ) → n < 2 ^ width_of f → list_any is_slash (canonical_text_of f n) ≡ false
no_slash_address V4 n h = no_slash_dotted _ _ _ _ (omega arith) (omega arith) (omega arith) (omega arith)
no_slash_address V6 n h = no_slash_hex (canonical_text_of V6 n) (All-hex_groups_text (segments_of (to_be_bytes w128 n)) (groups_small n h))

-- a text without a slash is all front
front-none : (text : List ℕ) → list_any is_slash text ≡ false → HasNoSlash text
front-none [] h = refl
front-none (x ∷ xs) h = go (is_slash x) refl (front-none xs) where
  go : (t : Bool) → is_slash x ≡ t → (list_any is_slash xs ≡ false → front_of xs ≡ xs) → front_of (x ∷ xs) ≡ x ∷ xs
  go true e later = (let no : list_any is_slash (x ∷ xs) ≡ true = rw e refl in cc)
  go false e later =
      let rest : list_any is_slash xs ≡ false = (let step : list_any is_slash (x ∷ xs) ≡ list_any is_slash xs = rw e refl in sym step ∙ h) in
      front-cons x xs e ∙ ap (λ (zs : List ℕ). x ∷ zs) (later rest)

-- what is written of an address is one of its texts, and one of it as a host
pub written_address : WrittenAddressIsRead
written_address a h =
    let none : HasNoSlash (canonical_text_of a.family a.value) = front-none (canonical_text_of a.family a.value) (no_slash_address a.family a.value h) in
    let round = address_round a.family a.value h in
    record {
      address = round;
      host = record {
        address = subst (λ (t : List ℕ). Spells t a.family a.value) (sym none) round;
        length_is = inl (none, refl);
      };
    }

-- what is written of a block is one of its texts
pub written_is_read : WritingIsRead
written_is_read b h =
    let front : front_of (block_text_of b) ≡ canonical_text_of b.family b.first =
    front-append (canonical_text_of b.family b.first) (decimal b.len) (no_slash_address b.family b.first h.in_range) in
    record {
      address = subst (λ (t : List ℕ). Spells t b.family b.first) (sym front) (address_round b.family b.first h.in_range);
      length_is = ap (λ (t : List ℕ). t ++ 47 ∷ decimal b.len) (sym front);
      lawful = h;
    }
