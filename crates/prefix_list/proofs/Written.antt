-- What is written of blocks is read as those blocks.
use Rattle.std.proofs.Common.{◌≡◌, ◌≢◌, ℕ, zero, suc, ◌+◌, ◌*◌, ◌^◌, ◌<◌, ◌≤◌, refl, sym, ◌∙◌, ap, subst, arith, inl, inr, Bool, true, false, ◌&&◌, ◌||◌, All, List, [], ◌∷◌, ◌++◌, length, get_or, take, decimal, codes, append_assoc, length-append}
use Rattle.std.specs.Char.{digit_value}
use Rattle.std.specs.Int.{w32, w128, to_be_bytes}
use Rattle.std.specs.List.{AllByRecursion, list_any, list_all, slice_split}
use Rattle.std.specs.Net.Addr.{segments_of}
use Rattle.std.specs.Net.Text.{dotted_text}
use Rattle.std.specs.Str.Parse.{AllDigits, digits_value}
use Rattle.std.proofs.NetLemmas.Alphabet.{IsHexOrColon, All-hex_groups_text}
use Rattle.std.proofs.lemmas.Bool.{and_parts, or_parts, or_from}
use Rattle.std.proofs.lemmas.Bool.Decides.{nat_tests}
use Rattle.std.proofs.lemmas.Fmt.{digits_decimal}
use Rattle.std.proofs.lemmas.List.Elements.{All-from_recursion}
use Rattle.std.proofs.lemmas.List.Folds.{list_any-append, list_any_none}
use Rattle.std.proofs.lemmas.List.Splits.{slice_split_at}
use Rattle.std.proofs.lemmas.Str.Parse.{IsNumeralModel, numerals_by_value, tells_digits}
use Rattle.inet_num.specs.declared.Family.{Family}
use Rattle.inet_num.specs.declared.Family.TheVariants.{V4, V6}
use Rattle.inet_num.specs.Net.{Cidr, IsBlock, width_of}
use Rattle.inet_num.specs.Text.{IsBlockText, canonical_text_of, block_text_of}
use Rattle.inet_num.proofs.RoundTrip as blocks
use Rattle.list_name.specs.Names.{IsListName, is_name_char}
use Rattle.prefix_list.specs.declared.styles.Style.{Style}
use Rattle.prefix_list.specs.declared.styles.Style.TheVariants.{Plain, Ios, Junos}
use Rattle.prefix_list.specs.Lists.{AreOf}
use Rattle.prefix_list.specs.Styles.{protocol_of, front_of, number_of, line_of, lines_from}
use Rattle.prefix_list.specs.Reading.{is_feed, lines_of, CanName, IsFormed, IsLine, LinesName, IsCounted, WrittenIsRead}

-- no line feed stands in the text
abbrev HasNoFeed : List ℕ → Type 0
HasNoFeed text = list_any is_feed text ≡ false

no_feed_more : (xs ys : List ℕ) → HasNoFeed xs → HasNoFeed ys → HasNoFeed (xs ++ ys)
no_feed_more xs ys h k = list_any-append is_feed xs ys ∙ or_from (list_any is_feed xs) (list_any is_feed ys) h k

digits_are : IsNumeralModel (AllDigits 10) (digits_value 10)
digits_are = numerals_by_value (AllDigits 10) tells_digits

no_feed_digits : (text : List ℕ) → AllDigits 10 text → HasNoFeed text
no_feed_digits [] h = refl
no_feed_digits (c ∷ text) h =
    let low : digit_value c < 10 = h.0 in
    let rest = no_feed_digits text h.1 in
    let here : is_feed c ≡ false = grind (arith, nat_tests) in
    rw (here, rest) refl

no_feed_decimal : (n : ℕ) → n < 2 ^ 64 → HasNoFeed (decimal n)
no_feed_decimal n h = no_feed_digits (decimal n) (digits_decimal digits_are n h)

no_feed_dotted : (a b c d : ℕ) → a < 256 → b < 256 → c < 256 → d < 256 → HasNoFeed (dotted_text a b c d)
no_feed_dotted a b c d p q r s =
    let fa = no_feed_decimal a (omega arith) in
    let fb = no_feed_decimal b (omega arith) in
    let fc = no_feed_decimal c (omega arith) in
    let fd = no_feed_decimal d (omega arith) in
    simp (list_any-append, fa, fb, fc, fd)

eight_small : (a b c d e f g h : ℕ) → a < 65536 → b < 65536 → c < 65536 → d < 65536 → e < 65536 → f < 65536 → g < 65536 → h < 65536 → (k : ℕ) → get_or (a ∷ b ∷ c ∷ d ∷ e ∷ f ∷ g ∷ h ∷ []) k 0 < 65536
eight_small a b c d e f g h p q r s t u v w zero = p
eight_small a b c d e f g h p q r s t u v w (suc zero) = q
eight_small a b c d e f g h p q r s t u v w (suc (suc zero)) = r
eight_small a b c d e f g h p q r s t u v w (suc (suc (suc zero))) = s
eight_small a b c d e f g h p q r s t u v w (suc (suc (suc (suc zero)))) = t
eight_small a b c d e f g h p q r s t u v w (suc (suc (suc (suc (suc zero))))) = u
eight_small a b c d e f g h p q r s t u v w (suc (suc (suc (suc (suc (suc zero)))))) = v
eight_small a b c d e f g h p q r s t u v w (suc (suc (suc (suc (suc (suc (suc zero))))))) = w
eight_small a b c d e f g h p q r s t u v w (suc (suc (suc (suc (suc (suc (suc (suc k)))))))) = omega arith

groups_small : (n : ℕ) → n < 2 ^ 128 → (k : ℕ) → get_or (segments_of (to_be_bytes w128 n)) k 0 < 65536
groups_small n h = eight_small _ _ _ _ _ _ _ _ (omega arith) (omega arith) (omega arith) (omega arith) (omega arith) (omega arith) (omega arith) (omega arith)

no_feed_byte : (c : ℕ) → IsHexOrColon c → is_feed c ≡ false
no_feed_byte c (inl h) = grind (arith, nat_tests)
no_feed_byte c (inr h) = grind (arith, nat_tests)

no_feed_hex : (text : List ℕ) → All IsHexOrColon text → HasNoFeed text
no_feed_hex text h = list_any_none is_feed text (λ k d l. no_feed_byte _ (h k d l))

no_feed_address : (f : Family) (n : ℕ) → n < 2 ^ width_of f → HasNoFeed (canonical_text_of f n)
no_feed_address V4 n h = no_feed_dotted _ _ _ _ (omega arith) (omega arith) (omega arith) (omega arith)
no_feed_address V6 n h = no_feed_hex (canonical_text_of V6 n) (All-hex_groups_text (segments_of (to_be_bytes w128 n)) (groups_small n h))

narrow : (f : Family) (len : ℕ) → len ≤ width_of f → len < 2 ^ 64
narrow V4 len h = omega arith
narrow V6 len h = omega arith

no_feed_block : (b : Cidr) → IsBlock b → HasNoFeed (block_text_of b)
no_feed_block b h =
    let rest = no_feed_decimal b.len (narrow b.family b.len h.short) in
    no_feed_more (canonical_text_of b.family b.first) (47 ∷ decimal b.len) (no_feed_address b.family b.first h.in_range) rest

no_feed_letters : (name : List ℕ) → list_all is_name_char name ≡ true → HasNoFeed name
no_feed_letters [] h = refl
no_feed_letters (c ∷ name) h =
    let p = and_parts (is_name_char c) (list_all is_name_char name) h in
    let letter = p.0 in
    let rest = no_feed_letters name p.1 in
    let here : is_feed c ≡ false = grind (arith, nat_tests) in
    rw (here, rest) refl

no_feed_protocol : (f : Family) → HasNoFeed (protocol_of f)
no_feed_protocol V4 = refl
no_feed_protocol V6 = refl

no_feed_front : (style : Style) (name : List ℕ) (family : Family) → IsListName name → HasNoFeed (front_of style name family)
no_feed_front Plain name family h = refl
no_feed_front Ios name family h =
    let begin = no_feed_more (protocol_of family) (codes " prefix-list ") (no_feed_protocol family) refl in
    let middle = no_feed_more (protocol_of family ++ codes " prefix-list ") name begin (no_feed_letters name h.letters) in
    no_feed_more (protocol_of family ++ codes " prefix-list " ++ name) (codes " seq ") middle refl
no_feed_front Junos name family h =
    let begin = no_feed_more (codes "set policy-options prefix-list ") name refl (no_feed_letters name h.letters) in
    no_feed_more (codes "set policy-options prefix-list " ++ name) (codes " ") begin refl

-- the style has numbers of at most ten digits for the blocks from this number on
abbrev IsNumbered : Style → ℕ → List Cidr → Type 0
IsNumbered Plain n bs = Unit {0}
IsNumbered Ios n bs = n + 5 * length bs < 10000000005
IsNumbered Junos n bs = Unit {0}

numbered_more : (style : Style) (n : ℕ) (b : Cidr) (bs : List Cidr) → IsNumbered style n (b ∷ bs) → IsNumbered style (n + 5) bs
numbered_more Plain n b bs h = tt
numbered_more Ios n b bs h = omega arith
numbered_more Junos n b bs h = tt

no_feed_number : (style : Style) (n : ℕ) (b : Cidr) (bs : List Cidr) → IsNumbered style n (b ∷ bs) → HasNoFeed (number_of style n)
no_feed_number Plain n b bs h = refl
no_feed_number Ios n b bs h = no_feed_more (decimal n) (codes " permit ") (no_feed_decimal n (omega arith)) refl
no_feed_number Junos n b bs h = refl

can_name : (style : Style) (name : List ℕ) → IsListName name → CanName style name
can_name Plain name h = tt
can_name Ios name h = h
can_name Junos name h = h

-- the line of a block is formed with its text
formed : (style : Style) (name : List ℕ) (n : ℕ) (b : Cidr) (bs : List Cidr) → IsBlock b → IsNumbered style n (b ∷ bs) → IsFormed style (front_of style name b.family) b.family (line_of style name n b) b
formed Plain name n b bs lawful h = record { number = 0; text = block_text_of b; short = omega arith; form = refl; block = blocks.written_is_read b lawful; family_is = refl }
formed Ios name n b bs lawful h = record { number = n; text = block_text_of b; short = omega arith; form = refl; block = blocks.written_is_read b lawful; family_is = refl }
formed Junos name n b bs lawful h = record { number = 0; text = block_text_of b; short = omega arith; form = refl; block = blocks.written_is_read b lawful; family_is = refl }

is_line : (style : Style) (name : List ℕ) (family : Family) (n : ℕ) (b : Cidr) (bs : List Cidr) → IsListName name → IsBlock b → b.family ≡ family → IsNumbered style n (b ∷ bs)
    → IsLine style name family (line_of style name n b) b
is_line style name family n b bs named lawful own h =
    subst (λ (f : Family). IsLine style name f (line_of style name n b) b) own (record { named = can_name style name named; formed = formed style name n b bs lawful h })

no_feed_line : (style : Style) (name : List ℕ) (n : ℕ) (b : Cidr) (bs : List Cidr) → IsListName name → IsBlock b → IsNumbered style n (b ∷ bs) → HasNoFeed (line_of style name n b)
no_feed_line style name n b bs named lawful h =
    no_feed_more (front_of style name b.family) (number_of style n ++ block_text_of b) (no_feed_front style name b.family named)
    (no_feed_more (number_of style n) (block_text_of b) (no_feed_number style n b bs h) (no_feed_block b lawful))

-- a line is not empty
some_line : (style : Style) (name : List ℕ) (n : ℕ) (b : Cidr) → line_of style name n b ≢ []
some_line style name n b e =
    let all = ap length e in
    let a = length-append (front_of style name b.family) (number_of style n ++ block_text_of b) in
    let c = length-append (number_of style n) (block_text_of b) in
    let d = length-append (canonical_text_of b.family b.first) (47 ∷ decimal b.len) in
    omega arith

names_cons : (P : List ℕ → Cidr → Type 0) (line : List ℕ) (ls : List (List ℕ)) (b : Cidr) (bs : List Cidr) → line ≢ [] → P line b → LinesName P ls bs → LinesName P (line ∷ ls) (b ∷ bs)
names_cons P [] ls b bs written is h = absurd (written refl)
names_cons P (x ∷ xs) ls b bs written is h = (b, bs, is, refl, h)

none_each : (text : List ℕ) → HasNoFeed text → AllByRecursion (λ x. is_feed x ≡ false) text
none_each [] h = tt
none_each (x ∷ xs) h = (let p = or_parts (is_feed x) (list_any is_feed xs) h in (p.0, none_each xs p.1))

lines_cons : (line rest : List ℕ) → HasNoFeed line → lines_of (line ++ 10 ∷ rest) ≡ line ∷ lines_of rest
lines_cons line rest h = slice_split_at is_feed line 10 rest (All-from_recursion (λ x. is_feed x ≡ false) line (none_each line h)) refl

read : (style : Style) (name : List ℕ) (family : Family) (n : ℕ) (bs : List Cidr) → IsListName name → AllByRecursion IsBlock bs → AreOf family bs → IsNumbered style n bs
    → LinesName (IsLine style name family) (lines_of (lines_from style name n bs)) bs
read style name family n [] named lawful own h = refl
read style name family n (b ∷ bs) named lawful own h =
    let line = line_of style name n b in
    let rest = lines_from style name (n + 5) bs in
    subst (λ (ls : List (List ℕ)). LinesName (IsLine style name family) ls (b ∷ bs)) (sym (lines_cons line rest (no_feed_line style name n b bs named lawful.0 h)))
    (names_cons (IsLine style name family) line (lines_of rest) b bs (some_line style name n b) (is_line style name family n b bs named lawful.0 own.0 h)
    (read style name family (n + 5) bs named lawful.1 own.1 (numbered_more style n b bs h)))

counted : (style : Style) (bs : List Cidr) → IsCounted style bs → IsNumbered style 5 bs
counted Plain bs h = tt
counted Ios bs h = omega arith
counted Junos bs h = tt

pub written_is_read : WrittenIsRead
written_is_read style name family bs named lawful own h = read style name family 5 bs named lawful own (counted style bs h)

-- ---- how the text of a list grows

pub lines_more : (style : Style) (name : List ℕ) (n : ℕ) (bs : List Cidr) (b : Cidr)
    → lines_from style name n (bs ++ b ∷ []) ≡ lines_from style name n bs ++ line_of style name (n + 5 * length bs) b ++ 10 ∷ []
lines_more style name n [] b = (let e : n ≡ n + 5 * 0 = omega arith in ap (λ (k : ℕ). line_of style name k b ++ 10 ∷ []) e)
lines_more style name n (c ∷ bs) b =
    let rest = lines_more style name (n + 5) bs b in
    let number : n + 5 + 5 * length bs ≡ n + 5 * length (c ∷ bs) = omega arith in
    let begin = line_of style name n c in
    let middle = 10 ∷ lines_from style name (n + 5) bs in
    let last = line_of style name (n + 5 * length (c ∷ bs)) b in
    ap (λ (t : List ℕ). begin ++ 10 ∷ t) (rest ∙ ap (λ (k : ℕ). lines_from style name (n + 5) bs ++ line_of style name k b ++ 10 ∷ []) number)
    ∙ sym (append_assoc begin (middle ++ last) (10 ∷ []))
    ∙ ap (λ (t : List ℕ). t ++ 10 ∷ []) (sym (append_assoc begin middle last))
