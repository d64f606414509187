-- Steps over the fields of a head.
use Rattle.std.proofs.Common.{◌≡◌, ◌∙◌, ◌+◌, ◌*◌, ◌-◌, ◌<◌, ◌≤◌, ◌&&◌, ◌||◌, ◌⊎◌, inl, inr, ℕ, Bool, true, false, cond, List, [], ◌∷◌, ◌++◌, length, map, filter, take, drop, get_or, min, nat_le, nat_lt, Result, Ok, Err, refl, sym, ap, subst, arith, IsTrue, append-nil}
use Rattle.std.specs.List.{list_any, list_all}
use Rattle.std.specs.Char.{is_ascii_digit, to_ascii_lowercase}
use Rattle.std.specs.Str.{str_eq_ignore_ascii_case}
use Rattle.std.specs.Str.Parse.{digits_value}
use Rattle.std.proofs.lemmas.Bool.Decides.{nat_tests, same_from_decides}
use Rattle.std.proofs.lemmas.List.{take_more, take_all, take-append-drop, map-append}
use Rattle.std.proofs.lemmas.List.Elements.{filter-append}
use Rattle.std.proofs.lemmas.List.Folds.{list_any-append}
use Rattle.std.proofs.lemmas.Slice.Eq.{bytes_eq-Decides}
use Rattle.http_session.specs.declared.request.Fault.{Fault}
use Rattle.http_session.specs.declared.request.Fault.TheVariants.{BadHead, LargeBody}
use Rattle.http_session.specs.Fields.{is_named, names_close, values_of, length_from, length_among, is_length_text}

pub same_test : (r : Bool) (a b : List ℕ) → ((IsTrue r → map to_ascii_lowercase a ≡ map to_ascii_lowercase b) × (map to_ascii_lowercase a ≡ map to_ascii_lowercase b → IsTrue r)) → r ≡ str_eq_ignore_ascii_case a b
same_test r a b h = same_from_decides r (str_eq_ignore_ascii_case a b) h (bytes_eq-Decides (map to_ascii_lowercase a) (map to_ascii_lowercase b))

-- the values so far, with one more field
value_where : Bool → List ℕ × List ℕ → List (List ℕ)
value_where b field = cond b (field.1 ∷ []) []

pub values_of-append : (name : List ℕ) (fs gs : List (List ℕ × List ℕ)) → values_of name (fs ++ gs) ≡ values_of name fs ++ values_of name gs
unfolding values_of
values_of-append name fs gs = ap (map (λ f. f.1)) (filter-append (is_named name) fs gs) ∙ map-append (λ f. f.1) (filter (is_named name) fs) (filter (is_named name) gs)

one_value : (b : Bool) (f : List ℕ × List ℕ) → map (λ (p : List ℕ × List ℕ). p.1) (cond b (f ∷ []) []) ≡ cond b (f.1 ∷ []) []
one_value true f = refl
one_value false f = refl

pub values_of_one : (name : List ℕ) (f : List ℕ × List ℕ) → values_of name (f ∷ []) ≡ cond (is_named name f) (f.1 ∷ []) []
unfolding values_of
values_of_one name f = one_value (is_named name f) f

-- the values of the fields up to i and of field i
module _ {X : Type 0} (of : X → List ℕ × List ℕ) (name : List ℕ) where
  pub values_more : (xs : List X) (i : ℕ) (d : X) → i < length xs → values_of name (map of (take (i + 1) xs)) ≡ values_of name (map of (take i xs)) ++ cond (is_named name (of (get_or xs i d))) ((of (get_or xs i d)).1 ∷ []) []
  values_more xs i d h =
      ap (λ l. values_of name (map of l)) (take_more xs i d h)
      ∙ ap (values_of name) (map-append of (take i xs) (get_or xs i d ∷ []))
      ∙ values_of-append name (map of (take i xs)) (of (get_or xs i d) ∷ [])
      ∙ ap (λ l. values_of name (map of (take i xs)) ++ l) (values_of_one name (of (get_or xs i d)))

  -- all the values: those up to field i and those from it on
  pub values_split : (xs : List X) (i : ℕ) → values_of name (map of xs) ≡ values_of name (map of (take i xs)) ++ values_of name (map of (drop i xs))
  values_split xs i =
      ap (λ l. values_of name (map of l)) (sym (take-append-drop i xs))
      ∙ ap (values_of name) (map-append of (take i xs) (drop i xs))
      ∙ values_of-append name (map of (take i xs)) (map of (drop i xs))

-- what the values so far say
abbrev pub IsSaidSoFar : Bool → Result ℕ Fault → List (List ℕ) → Type 0
IsSaidSoFar false said values = (values ≡ []) × (said ≡ Ok 0)
IsSaidSoFar true said values = (text : List ℕ) × (values ≡ text ∷ []) × (said ≡ length_from text)

pub said_is : (seen : Bool) (said : Result ℕ Fault) (values : List (List ℕ)) → IsSaidSoFar seen said values → said ≡ length_among values
said_is false said values h = h.1 ∙ sym (ap length_among h.0)
said_is true said values h = h.2 ∙ sym (ap length_among h.1)

pub list_any-map : {X Y : Type 0} (p : Y → Bool) (f : X → Y) (xs : List X) → list_any p (map f xs) ≡ list_any (λ x. p (f x)) xs
list_any-map p f [] = refl
list_any-map p f (x ∷ xs) = ap (λ b. p (f x) || b) (list_any-map p f xs)

no_by_test : (a b d : Bool) (said : Result ℕ Fault) → b ≡ false → cond ((a && b) && d) said (Err BadHead) ≡ Err BadHead
no_by_test true true d said e = cc e
no_by_test true false d said e = refl
no_by_test false b d said e = refl

-- no text, or too long a one, is no length
pub no_length : (text : List ℕ) → (length text ≡ 0) ⊎ (20 ≤ length text) → length_from text ≡ Err BadHead
unfolding length_from is_length_text
no_length text (inl e) = rw e refl
no_length text (inr l) = no_by_test (nat_lt 0 (length text)) (nat_lt (length text) 20) _ _ (grind (arith, nat_tests))

no_by_digits : (a b d : Bool) (said : Result ℕ Fault) → d ≡ false → cond ((a && b) && d) said (Err BadHead) ≡ Err BadHead
no_by_digits true true true said e = cc e
no_by_digits true true false said e = refl
no_by_digits true false d said e = refl
no_by_digits false b d said e = refl

pub no_digit : (text : List ℕ) → list_all is_ascii_digit text ≡ false → length_from text ≡ Err BadHead
unfolding length_from is_length_text
no_digit text e = no_by_digits (nat_lt 0 (length text)) (nat_lt (length text) 20) (list_all is_ascii_digit text) _ e

yes_by_digits : (a b d : Bool) (said : Result ℕ Fault) → a ≡ true → b ≡ true → d ≡ true → cond ((a && b) && d) said (Err BadHead) ≡ said
yes_by_digits a b d said ha hb hd = rw (ha, hb, hd) refl

by_cap : (a b : Bool) (v n : ℕ) → a ≡ b → (a ≡ true → v ≡ n) → cond a (Ok v) (Err LargeBody) ≡ cond b (Ok n) (Err LargeBody)
by_cap true true v n e h = ap (λ k. Ok k) (h refl)
by_cap false false v n e h = refl
by_cap true false v n e h = cc e
by_cap false true v n e h = cc e

capped : (v n : ℕ) → n ≡ min v 4194305 → cond (nat_le v 4194304) (Ok v) (Err LargeBody) ≡ cond (nat_le n 4194304) (Ok n) (Err LargeBody)
capped v n e = by_cap (nat_le v 4194304) (nat_le n 4194304) v n (grind (arith, nat_tests)) (λ h. grind (arith, nat_tests))

pub some_length : (text : List ℕ) (n : ℕ) → 0 < length text → length text < 20 → list_all is_ascii_digit text ≡ true → n ≡ min (digits_value 10 text) 4194305
    → length_from text ≡ cond (nat_le n 4194304) (Ok n) (Err LargeBody)
unfolding length_from is_length_text
some_length text n some short digits value =
    yes_by_digits (nat_lt 0 (length text)) (nat_lt (length text) 20) (list_all is_ascii_digit text) _ (grind (arith, nat_tests)) (grind (arith, nat_tests)) digits
    ∙ capped (digits_value 10 text) n value

or_mid : (a b c : Bool) → b ≡ true → ((a || b || c)) ≡ true
or_mid true true c e = refl
or_mid false true c e = refl
or_mid true false c e = refl
or_mid false false c e = cc e

module _ {X : Type 0} (of : X → List ℕ × List ℕ) (name : List ℕ) (xs : List X) (i : ℕ) (d : X) (within : i < length xs) where
  -- all the values: those before field i, its own where it has the name, and those behind it
  all_values : is_named name (of (get_or xs i d)) ≡ true → values_of name (map of xs) ≡ (values_of name (map of (take i xs)) ++ ((of (get_or xs i d)).1 ∷ [])) ++ values_of name (map of (drop (i + 1) xs))
  all_values h = values_split of name xs (i + 1) ∙ ap (λ l. l ++ values_of name (map of (drop (i + 1) xs))) (values_more of name xs i d within
      ∙ ap (λ b. values_of name (map of (take i xs)) ++ cond b ((of (get_or xs i d)).1 ∷ []) []) h)

  pub close_found : is_named name (of (get_or xs i d)) ≡ true → names_close ((of (get_or xs i d)).1) ≡ true → list_any names_close (values_of name (map of xs)) ≡ true
  close_found h k =
      let v = (of (get_or xs i d)).1 in
      let front = values_of name (map of (take i xs)) in
      let back = values_of name (map of (drop (i + 1) xs)) in
      let one : list_any names_close (v ∷ []) ≡ true = ap (λ b. b || false) k in
      ap (list_any names_close) (all_values h)
      ∙ list_any-append names_close (front ++ v ∷ []) back
      ∙ ap (λ b. b || list_any names_close back) (list_any-append names_close front (v ∷ []))
      ∙ or_mid (list_any names_close front) (list_any names_close (v ∷ [])) (list_any names_close back) one

  pub two_values : (text : List ℕ) → is_named name (of (get_or xs i d)) ≡ true → values_of name (map of (take i xs)) ≡ text ∷ [] → length_among (values_of name (map of xs)) ≡ Err BadHead
  two_values text h e =
      let v = (of (get_or xs i d)).1 in
      let back = values_of name (map of (drop (i + 1) xs)) in
      ap length_among (all_values h ∙ ap (λ l. (l ++ v ∷ []) ++ back) e)

  pub said_yes : (seen : Bool) (said next : Result ℕ Fault) → is_named name (of (get_or xs i d)) ≡ true → seen ≡ false → IsSaidSoFar seen said (values_of name (map of (take i xs)))
      → next ≡ length_from ((of (get_or xs i d)).1) → IsSaidSoFar true next (values_of name (map of (take (i + 1) xs)))
  said_yes true said next h s inv e = cc s
  said_yes false said next h s inv e = (
    (of (get_or xs i d)).1,
    values_more of name xs i d within ∙ ap (λ b. values_of name (map of (take i xs)) ++ cond b ((of (get_or xs i d)).1 ∷ []) []) h ∙ ap (λ l. l ++ (of (get_or xs i d)).1 ∷ []) inv.0,
    e,
  )

  pub said_no : (seen : Bool) (said : Result ℕ Fault) → is_named name (of (get_or xs i d)) ≡ false → IsSaidSoFar seen said (values_of name (map of (take i xs)))
      → IsSaidSoFar seen said (values_of name (map of (take (i + 1) xs)))
  said_no seen said h inv =
      let same = values_more of name xs i d within ∙ ap (λ b. values_of name (map of (take i xs)) ++ cond b ((of (get_or xs i d)).1 ∷ []) []) h ∙ append-nil (values_of name (map of (take i xs))) in
      subst (IsSaidSoFar seen said) (sym same) inv

pub step_value : (v n d b r next more : ℕ) → n ≡ min v 4194305 → r ≡ b - 48 → d + 48 ≡ b → next ≡ min (n * 10 + r) 4194305 → more ≡ v * 10 + d → next ≡ min more 4194305
step_value v n d b r next more h k e f g = omega arith

choice_large : (a : Bool) (n : ℕ) → a ≡ false → cond a (Ok n) (Err LargeBody) ≡ Err LargeBody
choice_large a n h = rw h refl

choice_small : (a : Bool) (n : ℕ) → a ≡ true → cond a (Ok n) (Err LargeBody) ≡ Ok n
choice_small a n h = rw h refl

all_text : (text : List ℕ) (i n : ℕ) → length text ≤ i → n ≡ min (digits_value 10 (take i text)) 4194305 → n ≡ min (digits_value 10 text) 4194305
all_text text i n h e = e ∙ ap (λ t. min (digits_value 10 t) 4194305) (take_all i text h)

pub large_length : (text : List ℕ) (i n : ℕ) → 0 < length text → length text < 20 → length text ≤ i → list_all is_ascii_digit (take i text) ≡ true → n ≡ min (digits_value 10 (take i text)) 4194305 → 4194304 < n → length_from text ≡ Err LargeBody
large_length text i n some short end digits value large =
    some_length text n some short (ap (list_all is_ascii_digit) (sym (take_all i text end)) ∙ digits) (all_text text i n end value) ∙ choice_large (nat_le n 4194304) n (grind (arith, nat_tests))

pub small_length : (text : List ℕ) (i n : ℕ) → 0 < length text → length text < 20 → length text ≤ i → list_all is_ascii_digit (take i text) ≡ true → n ≡ min (digits_value 10 (take i text)) 4194305 → n ≤ 4194304 → length_from text ≡ Ok n
small_length text i n some short end digits value small =
    some_length text n some short (ap (list_all is_ascii_digit) (sym (take_all i text end)) ∙ digits) (all_text text i n end value) ∙ choice_small (nat_le n 4194304) n (grind (arith, nat_tests))

pub both_true : (a b : Bool) → a ≡ true → b ≡ true → (a && b) ≡ true
both_true a b h k = rw (h, k) refl

or_none : (a b : Bool) → a ≡ false → b ≡ false → (a || b) ≡ false
or_none a b h k = rw (h, k) refl

module _ {X : Type 0} (of : X → List ℕ × List ℕ) (name : List ℕ) (xs : List X) (i : ℕ) (d : X) (within : i < length xs) where
  pub close_more : list_any names_close (values_of name (map of (take i xs))) ≡ false → list_any names_close (cond (is_named name (of (get_or xs i d))) ((of (get_or xs i d)).1 ∷ []) []) ≡ false
      → list_any names_close (values_of name (map of (take (i + 1) xs))) ≡ false
  close_more inv one =
      ap (list_any names_close) (values_more of name xs i d within)
      ∙ list_any-append names_close (values_of name (map of (take i xs))) (cond (is_named name (of (get_or xs i d))) ((of (get_or xs i d)).1 ∷ []) [])
      ∙ or_none _ _ inv one

pub unnamed : (b : Bool) (v : List ℕ) → b ≡ false → list_any names_close (cond b (v ∷ []) []) ≡ false
unnamed b v h = rw h refl

pub not_close : (b : Bool) (v : List ℕ) → names_close v ≡ false → list_any names_close (cond b (v ∷ []) []) ≡ false
not_close true v h = ap (λ c. c || false) h
not_close false v h = refl
