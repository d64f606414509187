-- Lines of a text, and the words of a line that was written.
use Rattle.std.proofs.Common.{◌≡◌, ◌≢◌, ℕ, ◌-◌, ◌<◌, ◌≤◌, Bool, true, false, cond, ◌==◌, nat_lt, nat_le, List, [], ◌∷◌, ◌++◌, length, get_or, take, map, refl, ap, sym, ◌∙◌, arith, codes, append_assoc}
use Rattle.std.specs.List.{AllByRecursion, filter, list_all, slice_split}
use Rattle.std.specs.Char.{to_ascii_lowercase}
use Rattle.std.specs.Str.Lines.{lines, lines_of_parts, strip_carriage_return}
use Rattle.std.proofs.lemmas.Bool.Decides.{nat_tests}
use Rattle.std.proofs.lemmas.List.{map-append, length-append}
use Rattle.std.proofs.lemmas.List.Elements.{All-from_recursion}
use Rattle.std.proofs.lemmas.List.Splits.{slice_split_at, slice_split_none, length-slice_split}
use Rattle.std.proofs.Math.Seq.{get_or-append_seam}
use Rattle.reverse_zone.specs.Records.{is_blank, words_of, is_skipped}
use Rattle.reverse_zone.proofs.Cuts.{Lacks}
use Rattle.reverse_zone.proofs.Labels.{plain_byte, plain_text, plain_test, dot_plain}
use Rattle.std.proofs.lemmas.Bool.{and_parts}
use Rattle.reverse_zone.proofs.HostBytes.{AllPlain, plain_lower, plain_append}

-- ---- lines

abbrev is_feed : ℕ → Bool
is_feed b = b == 10

feed_lacks : (text : List ℕ) → Lacks 10 text → AllByRecursion (λ c. is_feed c ≡ false) text
feed_lacks [] h = tt
feed_lacks (c ∷ text) h = (no_feed c h.0, feed_lacks text h.1)
  where
    no_feed : (c : ℕ) → c ≢ 10 → is_feed c ≡ false
    no_feed c h = grind (arith, nat_tests)

shape : (line : List ℕ) (parts : List (List ℕ)) → 0 < length parts → lines_of_parts (line ∷ parts) ≡ strip_carriage_return line ∷ lines_of_parts parts
shape line [] some = absurd (omega arith)
shape line (part ∷ parts) some = refl

some_parts : (text : List ℕ) → 0 < length (slice_split is_feed text)
some_parts text = omega (arith, length-slice_split is_feed text)

pub line_first : (text line rest : List ℕ) → text ≡ line ++ 10 ∷ rest → Lacks 10 line → lines text ≡ strip_carriage_return line ∷ lines rest
line_first text line rest e none =
    ap lines e ∙ ap lines_of_parts (slice_split_at is_feed line 10 rest (All-from_recursion (λ c. is_feed c ≡ false) line (feed_lacks line none)) refl)
    ∙ shape line (slice_split is_feed rest) (some_parts rest)

last_shape : (text : List ℕ) → 0 < length text → lines_of_parts (text ∷ []) ≡ text ∷ []
last_shape [] some = absurd (omega arith)
last_shape (c ∷ text) some =
    let other : (length (c ∷ text) == 0) ≡ false = grind (arith, nat_tests) in ap (λ (b : Bool). cond b [] ((c ∷ text) ∷ [])) other

pub line_last : (text rest : List ℕ) → Lacks 10 text → 0 < length text → rest ≡ [] → lines text ≡ text ∷ lines rest
line_last text rest none some e =
    ap lines_of_parts (slice_split_none is_feed text (All-from_recursion (λ c. is_feed c ≡ false) text (feed_lacks text none))) ∙ last_shape text some
    ∙ ap (λ (more : List ℕ). text ∷ lines more) (sym e)

strip_step : (b : Bool) (line : List ℕ) → b ≡ false → cond b (take (length line - 1) line) line ≡ line
strip_step false line e = refl
strip_step true line e = absurd (cc)

pub kept_line : (front : List ℕ) (c : ℕ) → c ≢ 13 → strip_carriage_return (front ++ c ∷ []) ≡ front ++ c ∷ []
kept_line front c other =
    let line : List ℕ = front ++ c ∷ [] in
    let len : length line - 1 ≡ length front = omega (arith, length-append front (c ∷ [])) in
    let last : get_or line (length line - 1) 0 ≡ c = ap (λ (n : ℕ). get_or line n 0) len ∙ get_or-append_seam front c [] 0 in
    let none : (get_or line (length line - 1) 0 == 13) ≡ false = grind (arith, nat_tests) in
    strip_step (get_or line (length line - 1) 0 == 13) line none

-- ---- words

no_blank : (c : ℕ) → 33 ≤ c → is_blank c ≡ false
no_blank c low = grind (arith, nat_tests)

no_blanks : (word : List ℕ) → AllPlain word → AllByRecursion (λ c. is_blank c ≡ false) word
no_blanks [] h = tt
no_blanks (c ∷ word) h = (no_blank c h.0.host.above, no_blanks word h.1)

one_word : (word rest : List ℕ) → AllPlain word → slice_split is_blank (word ++ 32 ∷ rest) ≡ word ∷ slice_split is_blank rest
one_word word rest h = slice_split_at is_blank word 32 rest (All-from_recursion (λ c. is_blank c ≡ false) word (no_blanks word h)) refl

last_word : (word : List ℕ) → AllPlain word → slice_split is_blank word ≡ word ∷ []
last_word word h = slice_split_none is_blank word (All-from_recursion (λ c. is_blank c ≡ false) word (no_blanks word h))

abbrev is_word : List ℕ → Bool
is_word word = nat_lt 0 (length word)

keep : (word : List ℕ) (words : List (List ℕ)) → 0 < length word → filter is_word (word ∷ words) ≡ word ∷ filter is_word words
keep word words some =
    let yes : is_word word ≡ true = grind (arith, nat_tests) in ap (λ (b : Bool). cond b (word ∷ filter is_word words) (filter is_word words)) yes

pub four_words : (a b c d : List ℕ) → AllPlain a → AllPlain b → AllPlain c → AllPlain d → 0 < length a → 0 < length b → 0 < length c → 0 < length d
    → words_of (a ++ 32 ∷ (b ++ 32 ∷ (c ++ 32 ∷ d))) ≡ a ∷ b ∷ c ∷ d ∷ []
four_words a b c d pa pb pc pd sa sb sc sd =
    let split : slice_split is_blank (a ++ 32 ∷ (b ++ 32 ∷ (c ++ 32 ∷ d))) ≡ a ∷ b ∷ c ∷ d ∷ [] =
    one_word a (b ++ 32 ∷ (c ++ 32 ∷ d)) pa
    ∙ ap (λ (words : List (List ℕ)). a ∷ words) (one_word b (c ++ 32 ∷ d) pb
    ∙ ap (λ (words : List (List ℕ)). b ∷ words) (one_word c d pc ∙ ap (λ (words : List (List ℕ)). c ∷ words) (last_word d pd))) in
    ap (filter is_word) split ∙ keep a (b ∷ c ∷ d ∷ []) sa
    ∙ ap (λ (words : List (List ℕ)). a ∷ words) (keep b (c ∷ d ∷ []) sb
    ∙ ap (λ (words : List (List ℕ)). b ∷ words) (keep c (d ∷ []) sc ∙ ap (λ (words : List (List ℕ)). c ∷ words) (keep d [] sd)))

-- ---- a line that was written

pub body_of : List ℕ → List ℕ → List ℕ
body_of owner name = owner ++ codes " IN PTR " ++ name ++ codes "."

pub body_line : (owner name : List ℕ) → owner ++ codes " IN PTR " ++ name ++ codes ".\n" ≡ body_of owner name ++ 10 ∷ []
unfolding body_of
body_line owner name = sym (append_assoc (owner ++ codes " IN PTR " ++ name) (codes ".") (10 ∷ []))

pub period_plain : AllPlain (codes ".")
period_plain = (plain_byte 46 dot_plain, tt)

pub lowered : (owner name : List ℕ) → AllPlain owner → AllPlain name
    → map to_ascii_lowercase (body_of owner name) ≡ owner ++ 32 ∷ (codes "in" ++ 32 ∷ (codes "ptr" ++ 32 ∷ (name ++ codes ".")))
unfolding body_of
lowered owner name po pn =
    let tail : List ℕ = name ++ codes "." in
    let pt : AllPlain tail = plain_append name (codes ".") pn period_plain in
    ap (map to_ascii_lowercase) (append_assoc (owner ++ codes " IN PTR ") name (codes ".") ∙ append_assoc owner (codes " IN PTR ") tail)
    ∙ map-append to_ascii_lowercase owner (codes " IN PTR " ++ tail)
    ∙ ap (λ (t : List ℕ). t ++ map to_ascii_lowercase (codes " IN PTR " ++ tail)) (plain_lower owner po)
    ∙ ap (λ (t : List ℕ). owner ++ (codes " in ptr " ++ t)) (plain_lower tail pt)

-- ---- what a line that was written is not

pub lacks_append : (byte : ℕ) (xs ys : List ℕ) → Lacks byte xs → Lacks byte ys → Lacks byte (xs ++ ys)
lacks_append byte [] ys h k = k
lacks_append byte (c ∷ xs) ys h k = (h.0, lacks_append byte xs ys h.1 k)

above_feed : (c : ℕ) → 32 ≤ c → c ≢ 10
above_feed c low e = omega arith

plain_lacks : (text : List ℕ) → AllPlain text → Lacks 10 text
plain_lacks [] h = tt
plain_lacks (c ∷ text) h = (above_feed c (let low = h.0.host.above in omega arith), plain_lacks text h.1)

low_lacks : (text : List ℕ) → list_all (λ c. nat_le 32 c) text ≡ true → Lacks 10 text
low_lacks [] e = tt
low_lacks (c ∷ text) e =
    let both = and_parts (nat_le 32 c) (list_all (λ x. nat_le 32 x) text) e in
    let low : nat_le 32 c ≡ true = both.0 in (above_feed c (low_of c low), low_lacks text both.1)
  where
    low_of : (c : ℕ) → nat_le 32 c ≡ true → 32 ≤ c
    low_of c e = grind (arith, nat_tests)

pub body_lacks : (owner name : List ℕ) → AllPlain owner → AllPlain name → Lacks 10 (body_of owner name)
unfolding body_of
body_lacks owner name po pn =
    lacks_append 10 (owner ++ codes " IN PTR " ++ name) (codes ".")
    (lacks_append 10 (owner ++ codes " IN PTR ") name (lacks_append 10 owner (codes " IN PTR ") (plain_lacks owner po) (low_lacks (codes " IN PTR ") refl)) (plain_lacks name pn))
    (low_lacks (codes ".") refl)

pub body_kept : (owner name : List ℕ) → strip_carriage_return (body_of owner name) ≡ body_of owner name
unfolding body_of
body_kept owner name = kept_line (owner ++ codes " IN PTR " ++ name) 46 (λ e. omega arith)

first_kept : (text rest : List ℕ) → AllPlain text → 0 < length text → is_skipped (text ++ rest) ≡ false
first_kept [] rest h some = absurd (omega arith)
first_kept (c ∷ text) rest h some = no_comment c h.0.host.other
  where
    no_comment : (c : ℕ) → c ≢ 59 → (c == 59) ≡ false
    no_comment c h = grind (arith, nat_tests)

pub body_read : (owner name : List ℕ) → AllPlain owner → 0 < length owner → is_skipped (body_of owner name) ≡ false
unfolding body_of
body_read owner name po some =
    ap is_skipped (append_assoc (owner ++ codes " IN PTR ") name (codes ".") ∙ append_assoc owner (codes " IN PTR ") (name ++ codes "."))
    ∙ first_kept owner (codes " IN PTR " ++ (name ++ codes ".")) po some

period_some : (name : List ℕ) → 0 < length (name ++ codes ".")
period_some [] = omega arith
period_some (c ∷ name) = omega arith

class_plain : AllPlain (codes "in")
unfolding plain_test
class_plain = plain_text (codes "in") refl

type_plain : AllPlain (codes "ptr")
unfolding plain_test
type_plain = plain_text (codes "ptr") refl

pub body_words : (owner name : List ℕ) → AllPlain owner → AllPlain name → 0 < length owner
    → words_of (map to_ascii_lowercase (body_of owner name)) ≡ owner ∷ codes "in" ∷ codes "ptr" ∷ (name ++ codes ".") ∷ []
body_words owner name po pn some =
    ap words_of (lowered owner name po pn)
    ∙ four_words owner (codes "in") (codes "ptr") (name ++ codes ".") po class_plain type_plain (plain_append name (codes ".") pn period_plain) some (omega arith) (omega arith) (period_some name)
