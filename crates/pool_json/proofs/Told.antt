-- Pieces by other names of what they tell.
use Rattle.std.proofs.Common.{◌≡◌, ◌∙◌, ℕ, List, [], ◌∷◌, ◌+◌, ◌<◌, Result, Ok, ap, decimal, get_or, length, take}
use Rattle.json.specs.Token.{Token}
use Rattle.json.specs.Written.{Written}
use Rattle.ipam_json.specs.Values.{number_data}
use Rattle.ipam_json.specs.Written.{Puts, pieces_of, rows_pieces}
use Rattle.ipam_json.proofs.Pieces.{after, as_pieces, rows_more}
use Rattle.pool_json.specs.Replies.{words_data}

-- a code and words, by other names of both
pub as_words : {E : Type 0} {r : Result (Unit {0}) E} {old new : Written} {a b c d : List ℕ}
    → a ≡ b → c ≡ d → Puts r old new (pieces_of (words_data a c)) → Puts r old new (pieces_of (words_data b d))
as_words {a = a} {b = b} {c = c} {d = d} p q h =
    as_pieces (ap (λ (x : List ℕ). pieces_of (words_data x c)) p ∙ ap (λ (x : List ℕ). pieces_of (words_data b x)) q) h

-- a number alone likewise
pub as_number : {E : Type 0} {r : Result (Unit {0}) E} {old new : Written} {a b : ℕ}
    → a ≡ b → Puts r old new (Token.number (decimal a) ∷ []) → Puts r old new (pieces_of (number_data b))
as_number p h = as_pieces (ap (λ (n : ℕ). pieces_of (number_data n)) p) h

-- one more of some numbers
pub one_more : {E : Type 0} {r : Result (Unit {0}) E} {u : Unit {0}} {old mid new : Written} (numbers : List ℕ) (i n : ℕ)
    → Puts {E = E} (Ok u) old mid (rows_pieces number_data (take i numbers)) → Puts r mid new (pieces_of (number_data n)) → i < length numbers → n ≡ get_or numbers i n
    → Puts r old new (rows_pieces number_data (take (i + 1) numbers))
one_more numbers i n h k l is = as_pieces (rows_more number_data numbers i n l is) (after h k)
