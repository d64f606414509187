-- Pieces that are written one after another.
use Rattle.std.proofs.Common.{◌≡◌, ℕ, ◌+◌, ◌<◌, length, take, get_or, Option, Some, None, List, [], ◌∷◌, ◌++◌, Result, Ok, Err, OnOk, append_assoc, append-nil, sym, ◌∙◌, ap, subst, map, decimal, refl}
use Rattle.std.proofs.lemmas.List.{take_more}
use Rattle.json.specs.Print.{print, print_from}
use Rattle.json.specs.Token.{Token}
use Rattle.json.specs.Tree.{items_tokens}
use Rattle.json.specs.Written.{Written, Writes}
use Rattle.serde_json.specs.View.{items_of}
use Rattle.serde_json.specs.Data.{Data}
use Rattle.serde_json.specs.Written.{items_outline}
use Rattle.serde_json.proofs.Texts.{print-outline}
use Rattle.inet_num.specs.declared.Family.{Family}
use Rattle.ipam_json.specs.Values.{version_of}
use Rattle.ipam_json.specs.Replies.{text_of_value}
use Rattle.ipam_json.specs.Written.{Puts, pieces_of, value_pieces, rows_pieces}

-- one piece
pub wrote : {E : Type 0} {r : Result (Unit {0}) E} {old new : Written} {t : Token} → Writes r old new t → Puts r old new (t ∷ [])
wrote h = record { before = h.room.0; tokens = h.ok }

join : {E : Type 0} (r : Result (Unit {0}) E) (old mid new : Written) (a b : List Token)
    → mid.tokens ≡ old.tokens ++ a → OnOk r (new.tokens ≡ mid.tokens ++ b) → OnOk r (new.tokens ≡ old.tokens ++ (a ++ b))
join (Ok u) old mid new a b h k = k ∙ ap (λ (ts : List Token). ts ++ b) h ∙ append_assoc old.tokens a b
join (Err e) old mid new a b h k = tt

-- some pieces, and then what comes
pub after : {E : Type 0} {r : Result (Unit {0}) E} {u : Unit {0}} {old mid new : Written} {a b : List Token}
    → Puts {E = E} (Ok u) old mid a → Puts r mid new b → Puts r old new (a ++ b)
after {r = r} {old = old} {mid = mid} {new = new} {a = a} {b = b} h k =
    record { before = k.before ∙ h.before; tokens = join r old mid new a b h.tokens k.tokens }

-- some pieces, and then out of memory
pub failed : {E : Type 0} {u : Unit {0}} {e : E} {old mid new : Written} {a b : List Token}
    → Puts {E = E} (Ok u) old mid a → Puts {E = E} (Err e) mid new b → (c : List Token) → Puts {E = E} (Err e) old new c
failed h k c = record { before = k.before ∙ h.before; tokens = tt }

-- the name of a member, by another text of it
pub as_key : {E : Type 0} {r : Result (Unit {0}) E} {old new : Written} {a b : List ℕ} → a ≡ b → Puts r old new (Token.key a ∷ []) → Puts r old new (Token.key b ∷ [])
as_key {r = r} {old = old} {new = new} e h = subst (λ (text : List ℕ). Puts r old new (Token.key text ∷ [])) e h

-- a text alone, by another name of it
pub as_string : {E : Type 0} {r : Result (Unit {0}) E} {old new : Written} {a b : List ℕ} → a ≡ b → Puts r old new (Token.string a ∷ []) → Puts r old new (Token.string b ∷ [])
as_string {r = r} {old = old} {new = new} e h = subst (λ (text : List ℕ). Puts r old new (Token.string text ∷ [])) e h

-- a family, by another name of it
pub as_family : {E : Type 0} {r : Result (Unit {0}) E} {old new : Written} {name : List ℕ} {a b : Family}
    → a ≡ b → Puts r old new (Token.key name ∷ Token.number (decimal (version_of a)) ∷ []) → Puts r old new (Token.key name ∷ Token.number (decimal (version_of b)) ∷ [])
as_family {r = r} {old = old} {new = new} {name = name} e h =
    subst (λ (f : Family). Puts r old new (Token.key name ∷ Token.number (decimal (version_of f)) ∷ [])) e h

-- a member of a text, by another name of the text
pub as_text : {E : Type 0} {r : Result (Unit {0}) E} {old new : Written} {name a b : List ℕ}
    → a ≡ b → Puts r old new (Token.key name ∷ Token.string a ∷ []) → Puts r old new (Token.key name ∷ Token.string b ∷ [])
as_text {r = r} {old = old} {new = new} {name = name} e h =
    subst (λ (text : List ℕ). Puts r old new (Token.key name ∷ Token.string text ∷ [])) e h

-- a member of a number likewise
pub as_number : {E : Type 0} {r : Result (Unit {0}) E} {old new : Written} {name : List ℕ} {a b : ℕ}
    → a ≡ b → Puts r old new (Token.key name ∷ Token.number (decimal a) ∷ []) → Puts r old new (Token.key name ∷ Token.number (decimal b) ∷ [])
as_number {r = r} {old = old} {new = new} {name = name} e h =
    subst (λ (n : ℕ). Puts r old new (Token.key name ∷ Token.number (decimal n) ∷ [])) e h

-- the same pieces
pub as_pieces : {E : Type 0} {r : Result (Unit {0}) E} {old new : Written} {a b : List Token} → a ≡ b → Puts r old new a → Puts r old new b
as_pieces {r = r} {old = old} {new = new} e h = subst (λ (ts : List Token). Puts r old new ts) e h

-- nothing is written
pub none : {E : Type 0} (w : Written) → Puts {E = E} (Ok tt) w w []
none w = record { before = refl; tokens = sym (append-nil w.tokens) }

-- things that are written one after another
module _ {T : Type 0} (data_of : T → Data) where
  -- the pieces of an array of them
  rows_are : (xs : List T) → items_tokens (items_outline (items_of (map data_of xs))) ≡ rows_pieces data_of xs ++ Token.end_array ∷ []
  rows_are [] = refl
  rows_are (x ∷ xs) = ap (λ (ts : List Token). pieces_of (data_of x) ++ ts) (rows_are xs) ∙ sym (append_assoc (pieces_of (data_of x)) (rows_pieces data_of xs) (Token.end_array ∷ []))

  rows_append : (xs ys : List T) → rows_pieces data_of (xs ++ ys) ≡ rows_pieces data_of xs ++ rows_pieces data_of ys
  rows_append [] ys = refl
  rows_append (x ∷ xs) ys = ap (λ (ts : List Token). pieces_of (data_of x) ++ ts) (rows_append xs ys) ∙ sym (append_assoc (pieces_of (data_of x)) (rows_pieces data_of xs) (rows_pieces data_of ys))

  -- one more of them
  pub rows_more : (xs : List T) (i : ℕ) (x : T) → i < length xs → x ≡ get_or xs i x
      → rows_pieces data_of (take i xs) ++ pieces_of (data_of x) ≡ rows_pieces data_of (take (i + 1) xs)
  rows_more xs i x h is =
      let one : rows_pieces data_of (x ∷ []) ≡ pieces_of (data_of x) = append-nil (pieces_of (data_of x)) in
      let longer : take (i + 1) xs ≡ take i xs ++ x ∷ [] = take_more xs i x h ∙ ap (λ (v : T). take i xs ++ v ∷ []) (sym is) in
      ap (λ (ts : List Token). rows_pieces data_of (take i xs) ++ ts) (sym one) ∙ sym (rows_append (take i xs) (x ∷ [])) ∙ ap (rows_pieces data_of) (sym longer)

  -- all of them, and then the end of their array
  pub rows_end : (xs : List T) → rows_pieces data_of xs ++ Token.end_array ∷ [] ≡ items_tokens (items_outline (items_of (map data_of xs)))
  rows_end xs = sym (rows_are xs)

nothing_printed : print [] ≡ []
unfolding print_from
nothing_printed = refl

-- what was written from nothing is the text of the value
pub written_is : {E : Type 0} {u : Unit {0}} (d : Option Data) (text : List ℕ) (start end : Written)
    → start.before ≡ [] → start.tokens ≡ [] → Puts {E = E} (Ok u) start end (value_pieces d) → text ≡ end.before ++ print end.tokens
    → text ≡ text_of_value d
written_is d text start end nothing none puts is =
    let all : end.tokens ≡ value_pieces d = puts.tokens ∙ ap (λ (ts : List Token). ts ++ value_pieces d) none in
    is ∙ ap (λ (before : List ℕ). before ++ print end.tokens) (puts.before ∙ nothing) ∙ ap print all ∙ printed d
  where
    printed : (d : Option Data) → print (value_pieces d) ≡ text_of_value d
    printed None = nothing_printed
    printed (Some d) = print-outline d
