-- The bytes of a name that fits, and of an owner: printing ASCII, in lower case, with no blank and no semicolon.
use Rattle.std.proofs.Common.{◌≡◌, ◌≢◌, ◌⊎◌, inl, inr, ℕ, ◌<◌, ◌≤◌, Bool, true, false, not, cond, ◌&&◌, ◌||◌, ◌==◌, List, [], ◌∷◌, ◌++◌, length, map, reverse, refl, ap, sym, ◌∙◌, subst, arith, codes, IsTrue, nat_le, bytes_eq}
use Rattle.std.specs.List.{AllByRecursion, list_all, list_any, slice_split, onto_first}
use Rattle.std.specs.Char.{is_ascii_uppercase, to_ascii_lowercase}
use Rattle.std.specs.Str.{IsAscii}
use Rattle.std.proofs.lemmas.Bool.{and_parts}
use Rattle.std.proofs.lemmas.Bool.Decides.{nat_tests}
use Rattle.std.proofs.lemmas.List.Elements.{All-from_recursion, recursion_from_All}
use Rattle.std.proofs.lemmas.List.Sorted.{IsPermutation-reverse, All-permutation}
use Rattle.std.proofs.lemmas.List.{reverse-reverse}
use Rattle.std.proofs.lemmas.Slice.Eq.{bytes_eq-Decides}
use Rattle.std.proofs.lemmas.Str.Ascii.{IsAscii-nil, IsAscii-cons}
use Rattle.ipam_data.specs.Texts.{is_slug_char}
use Rattle.ipam_data.specs.HostNames.{is_dot, after_dot, bare, after_star, is_label, are_labels, is_dns_name}
use Rattle.reverse_zone.specs.Names.{ends_in_dot, has_star, has_short_labels, fits_dns}

-- a byte of a host's name
pub record IsHostByte (c : ℕ) : Type 0 where
  pub above : 33 ≤ c
  pub ascii : c < 128
  pub other : c ≢ 59

-- one that is no upper-case letter
pub record IsPlainByte (c : ℕ) : Type 0 where
  pub host : IsHostByte c
  pub lower : to_ascii_lowercase c ≡ c

abbrev pub AllHost : List ℕ → Type 0
AllHost text = AllByRecursion IsHostByte text

abbrev pub AllPlain : List ℕ → Type 0
AllPlain text = AllByRecursion IsPlainByte text

-- ---- names of hosts

slug_numbers : (c : ℕ) → is_slug_char c ≡ true → (33 ≤ c) × (c < 128) × (c ≢ 59)
slug_numbers c e = grind (arith, nat_tests)

slug_host : (c : ℕ) → is_slug_char c ≡ true → IsHostByte c
slug_host c e = let h = slug_numbers c e in record { above = h.0; ascii = h.1; other = h.2 }

byte_host : (c d : ℕ) → c == d ≡ true → 33 ≤ d → d < 128 → d ≢ 59 → IsHostByte c
byte_host c d e low high other =
    let same : c ≡ d = grind (arith, nat_tests) in
    subst IsHostByte (sym same) (record { above = low; ascii = high; other = other })

dot_host : (c : ℕ) → is_dot c ≡ true → IsHostByte c
dot_host c e = byte_host c 46 e (omega arith) (omega arith) (omega arith)

parts_step : (b : Bool) (c : ℕ) (parts : List (List ℕ)) → is_dot c ≡ b → list_all (list_all is_slug_char) (cond b ([] ∷ parts) (onto_first c parts)) ≡ true
    → IsHostByte c × (list_all (list_all is_slug_char) parts ≡ true)
parts_step true c parts dot e = (dot_host c dot, e)
parts_step false c [] dot e = (slug_host c (and_parts (is_slug_char c) true (and_parts (is_slug_char c && true) true e).0).0, refl)
parts_step false c (part ∷ parts) dot e =
    let both = and_parts (is_slug_char c && list_all is_slug_char part) (list_all (list_all is_slug_char) parts) e in
    let first = and_parts (is_slug_char c) (list_all is_slug_char part) both.0 in
    (slug_host c first.0, ap (λ (b : Bool). b && list_all (list_all is_slug_char) parts) first.1 ∙ both.1)

parts_host : (text : List ℕ) → list_all (list_all is_slug_char) (slice_split is_dot text) ≡ true → AllHost text
parts_host [] e = tt
parts_host (c ∷ text) e =
    let step = parts_step (is_dot c) c (slice_split is_dot text) refl e in (step.0, parts_host text step.1)

labels_parts : (parts : List (List ℕ)) → list_all is_label parts ≡ true → list_all (list_all is_slug_char) parts ≡ true
labels_parts [] e = refl
labels_parts (part ∷ parts) e =
    let both = and_parts (is_label part) (list_all is_label parts) e in
    let first = and_parts (nat_le 1 (length part)) (list_all is_slug_char part) both.0 in
    ap (λ (b : Bool). b && list_all (list_all is_slug_char) parts) first.1 ∙ labels_parts parts both.1

star_step : (b : Bool) (c d : ℕ) (cs : List ℕ) → (c == 42 && is_dot d) ≡ b → AllHost (cond b cs (c ∷ d ∷ cs)) → AllHost (c ∷ d ∷ cs)
star_step true c d cs e h =
    let both = and_parts (c == 42) (is_dot d) e in (byte_host c 42 both.0 (omega arith) (omega arith) (omega arith), (dot_host d both.1, h))
star_step false c d cs e h = h

star_host : (text : List ℕ) → AllHost (after_star text) → AllHost text
star_host [] h = h
star_host (c ∷ []) h = h
star_host (c ∷ d ∷ cs) h = star_step (c == 42 && is_dot d) c d cs refl h

dot_step : (b : Bool) (c : ℕ) (cs : List ℕ) → is_dot c ≡ b → AllHost (cond b cs (c ∷ cs)) → AllHost (c ∷ cs)
dot_step true c cs e h = (dot_host c e, h)
dot_step false c cs e h = h

after_dot_host : (text : List ℕ) → AllHost (after_dot text) → AllHost text
after_dot_host [] h = h
after_dot_host (c ∷ cs) h = dot_step (is_dot c) c cs refl h

turned : (text : List ℕ) → AllHost text → AllHost (reverse text)
turned text h = recursion_from_All IsHostByte (reverse text) (All-permutation IsHostByte text (reverse text) (IsPermutation-reverse text) (All-from_recursion IsHostByte text h))

bare_host : (text : List ℕ) → AllHost (bare text) → AllHost text
bare_host text h =
    let front : AllHost (after_dot (reverse text)) = subst AllHost (reverse-reverse (after_dot (reverse text))) (turned (bare text) h) in
    subst AllHost (reverse-reverse text) (turned (reverse text) (after_dot_host (reverse text) front))

or_parts : (x y : Bool) → (x || y) ≡ true → (x ≡ true) ⊎ (y ≡ true)
or_parts true y e = inl refl
or_parts false y e = inr e

star_text_host : AllHost (codes "*")
star_text_host = (record { above = omega arith; ascii = omega arith; other = omega arith }, tt)

no_bytes : (text : List ℕ) → length text == 0 ≡ true → AllHost text
no_bytes [] e = tt
no_bytes (c ∷ text) e = absurd (grind (arith, nat_tests))

name_host : (name : List ℕ) → is_dns_name name ≡ true → AllHost name
unfolding is_dns_name
name_host name e = elim (or_parts (length name == 0 || bytes_eq (bare name) (codes "*")) (are_labels (after_star (bare name))) e) [
  | inl short ↦ (elim (or_parts (length name == 0) (bytes_eq (bare name) (codes "*")) short) [
    | inl none ↦ no_bytes name none
    | inr star ↦ bare_host name (subst AllHost (sym ((bytes_eq-Decides (bare name) (codes "*")).0 star)) star_text_host)
  ])
  | inr labels ↦ bare_host name (star_host (bare name) (parts_host (after_star (bare name)) (labels_parts (slice_split is_dot (after_star (bare name))) labels)))
]

-- ---- names that fit

-- what a name that fits has
pub record HasFit (name : List ℕ) : Type 0 where
  pub some : nat_le 1 (length name) ≡ true
  pub few : nat_le (length name) 253 ≡ true
  pub dns : is_dns_name name ≡ true
  pub relative : not (ends_in_dot name) ≡ true
  pub lower : not (list_any is_ascii_uppercase name) ≡ true

pub fit_parts : (name : List ℕ) → IsTrue (fits_dns name) → HasFit name
unfolding fits_dns
fit_parts name e =
    let a = and_parts _ (has_short_labels name) e in
    let b = and_parts _ (not (has_star name)) a.0 in
    let c = and_parts _ (not (list_any is_ascii_uppercase name)) b.0 in
    let d = and_parts _ (not (ends_in_dot name)) c.0 in
    let f = and_parts _ (is_dns_name name) d.0 in
    let g = and_parts (nat_le 1 (length name)) (nat_le (length name) 253) f.0 in
    record { some = g.0; few = g.1; dns = f.1; relative = d.1; lower = c.1 }

pub fit_short : (name : List ℕ) → IsTrue (fits_dns name) → length name ≤ 253
fit_short name e = let few = (fit_parts name e).few in grind (arith, nat_tests)

pub fit_some : (name : List ℕ) → IsTrue (fits_dns name) → 1 ≤ length name
fit_some name e = let some = (fit_parts name e).some in grind (arith, nat_tests)

lower_byte : (c : ℕ) → not (is_ascii_uppercase c) ≡ true → to_ascii_lowercase c ≡ c
lower_byte c e = grind (arith, nat_tests)

not_any : (x y : Bool) → not (x || y) ≡ true → (not x ≡ true) × (not y ≡ true)
not_any true y e = absurd (cc)
not_any false y e = (refl, e)

plain_bytes : (text : List ℕ) → AllHost text → not (list_any is_ascii_uppercase text) ≡ true → AllPlain text
plain_bytes [] h e = tt
plain_bytes (c ∷ text) h e =
    let both = not_any (is_ascii_uppercase c) (list_any is_ascii_uppercase text) e in
    (record { host = h.0; lower = lower_byte c both.0 }, plain_bytes text h.1 both.1)

pub fit_plain : (name : List ℕ) → IsTrue (fits_dns name) → AllPlain name
fit_plain name e = let has = fit_parts name e in plain_bytes name (name_host name has.dns) has.lower

-- ---- plain bytes

pub plain_ascii : (text : List ℕ) → AllPlain text → IsAscii text
plain_ascii [] h = IsAscii-nil
plain_ascii (c ∷ text) h = IsAscii-cons c text h.0.host.ascii (plain_ascii text h.1)

pub plain_lower : (text : List ℕ) → AllPlain text → map to_ascii_lowercase text ≡ text
plain_lower [] h = refl
plain_lower (c ∷ text) h = let first = h.0.lower in let rest = plain_lower text h.1 in cc

pub plain_append : (xs ys : List ℕ) → AllPlain xs → AllPlain ys → AllPlain (xs ++ ys)
plain_append [] ys h k = k
plain_append (c ∷ xs) ys h k = (h.0, plain_append xs ys h.1 k)
