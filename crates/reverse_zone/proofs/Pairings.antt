-- The pairs of lines: each line that is not skipped has one, in order.
use Rattle.std.proofs.Common.{◌≡◌, ℕ, ◌+◌, Bool, true, false, not, cond, List, [], ◌∷◌, ◌++◌, length, Some, refl, ap, sym, ◌∙◌, subst, arith, codes, append_assoc}
use Rattle.std.specs.List.{filter, AllZip}
use Rattle.std.proofs.lemmas.List.{append_cancel_right, length-append}
use Rattle.std.proofs.lemmas.List.Elements.{filter-append}
use Rattle.inet_num.specs.Net.{Address}
use Rattle.reverse_zone.specs.declared.record.Pair.{Pair}
use Rattle.reverse_zone.specs.Owners.{owner_of}
use Rattle.reverse_zone.specs.Records.{IsRecord, IsRecordOf, is_skipped}
use Rattle.reverse_zone.specs.Inputs.{ArePairsOf, IsRefused, IsFirstRefused}
use Rattle.reverse_zone.specs.Laws.{InputHasOneAnswer}
use Rattle.reverse_zone.proofs.Labels.{owner_once}

abbrev is_kept : List ℕ → Bool
is_kept line = not (is_skipped line)

-- ---- one line has one pair

same_fields : (x y : List ℕ × List ℕ) → Some x ≡ Some y → x ≡ y
same_fields x y e = cc

pub record_once : (words : List (List ℕ)) (one other : Pair) → IsRecord words one → IsRecord words other → one ≡ other
record_once words one other h k =
    let fields = same_fields (owner_of one.host, one.name ++ codes ".") (owner_of other.host, other.name ++ codes ".") (sym h.fields ∙ k.fields) in
    let host : one.host ≡ other.host = owner_once one.host other.host h.host k.host (ap (λ (x : List ℕ × List ℕ). x.0) fields) in
    let name : one.name ≡ other.name = append_cancel_right one.name other.name (codes ".") (ap (λ (x : List ℕ × List ℕ). x.1) fields) in
    ap (λ (a : Address). let pair : Pair = record { host = a; name = one.name } in pair) host
    ∙ ap (λ (n : List ℕ). let pair : Pair = record { host = other.host; name = n } in pair) name

zip_once : (lines : List (List ℕ)) (one other : List Pair) → AllZip IsRecordOf lines one → AllZip IsRecordOf lines other → one ≡ other
zip_once [] [] [] h k = refl
zip_once [] (p ∷ one) other h k = absurd h
zip_once [] [] (q ∷ other) h k = absurd k
zip_once (line ∷ lines) [] other h k = absurd h
zip_once (line ∷ lines) (p ∷ one) [] h k = absurd k
zip_once (line ∷ lines) (p ∷ one) (q ∷ other) h k =
    let first : p ≡ q = record_once _ p q h.0 k.0 in let rest : one ≡ other = zip_once lines one other h.1 k.1 in cc

-- ---- a refused line

kept_step : (b : Bool) (line : List ℕ) (rest : List (List ℕ)) (pairs : List Pair) → b ≡ true → AllZip IsRecordOf (cond b (line ∷ rest) rest) pairs → AllZip IsRecordOf (line ∷ rest) pairs
kept_step true line rest pairs e h = h
kept_step false line rest pairs e h = absurd (cc)

no_pair : (line : List ℕ) (rest : List (List ℕ)) (pairs : List Pair) → IsRefused line → ¬ AllZip IsRecordOf (line ∷ rest) pairs
no_pair line rest [] h k = k
no_pair line rest (p ∷ pairs) h k = h.none p k.0

pub not_taken : (line : List ℕ) (lines : List (List ℕ)) (pairs : List Pair) → IsRefused line → ¬ ArePairsOf (line ∷ lines) pairs
not_taken line lines pairs h k = no_pair line (filter is_kept lines) pairs h (kept_step (is_kept line) line (filter is_kept lines) pairs (ap not h.kept) k)

tail_step : (b : Bool) (line : List ℕ) (rest : List (List ℕ)) (pairs : List Pair) → AllZip IsRecordOf (cond b (line ∷ rest) rest) pairs → (others : List Pair) × AllZip IsRecordOf rest others
tail_step false line rest pairs h = (pairs, h)
tail_step true line rest [] h = absurd h
tail_step true line rest (p ∷ pairs) h = (pairs, h.1)

tail_pairs : (line : List ℕ) (lines : List (List ℕ)) (pairs : List Pair) → ArePairsOf (line ∷ lines) pairs → (others : List Pair) × ArePairsOf lines others
tail_pairs line lines pairs h = tail_step (is_kept line) line (filter is_kept lines) pairs h

none_refused : (before : List (List ℕ)) (line : List ℕ) (after : List (List ℕ)) (pairs : List Pair) → IsRefused line → ¬ ArePairsOf (before ++ line ∷ after) pairs
none_refused [] line after pairs h k = not_taken line after pairs h k
none_refused (first ∷ before) line after pairs h k = let rest = tail_pairs first (before ++ line ∷ after) pairs k in none_refused before line after rest.0 h rest.1

refused_once : (b c : List (List ℕ)) (l m : List ℕ) (a d : List (List ℕ)) (p q : List Pair) → b ++ l ∷ a ≡ c ++ m ∷ d
    → ArePairsOf b p → ArePairsOf c q → IsRefused l → IsRefused m → length b ≡ length c
refused_once [] [] l m a d p q e hb hc hl hm = refl
refused_once [] (x ∷ c) l m a d p q e hb hc hl hm = let same : l ≡ x = cc in absurd (not_taken x c q (subst IsRefused same hl) hc)
refused_once (x ∷ b) [] l m a d p q e hb hc hl hm = let same : m ≡ x = cc in absurd (not_taken x b p (subst IsRefused same hm) hb)
refused_once (x ∷ b) (y ∷ c) l m a d p q e hb hc hl hm =
    let tails : b ++ l ∷ a ≡ c ++ m ∷ d = cc in
    let one = tail_pairs x b p hb in
    let other = tail_pairs y c q hc in
    let more : length b ≡ length c = refused_once b c l m a d one.0 other.0 tails one.1 other.1 hl hm in omega arith

pub input_has_one_answer : InputHasOneAnswer
input_has_one_answer = record {
  pairs = λ lines one other h k. zip_once (filter is_kept lines) one other h k;
  refusals = λ lines m n h k.
      (let same : length h.before ≡ length k.before = refused_once h.before k.before h.line k.line h.after k.after h.pairs k.pairs (sym h.split ∙ k.split) h.read k.read h.refused k.refused in
      h.number_is ∙ ap (λ (n : ℕ). n + 1) same ∙ sym k.number_is);
  apart = λ lines pairs n h k. none_refused k.before k.line k.after pairs k.refused (subst (λ (ls : List (List ℕ)). ArePairsOf ls pairs) k.split h);
}

-- ---- lines that are read one after another

zip_push : (lines : List (List ℕ)) (pairs : List Pair) (line : List ℕ) (pair : Pair) → AllZip IsRecordOf lines pairs → IsRecordOf line pair
    → AllZip IsRecordOf (lines ++ line ∷ []) (pairs ++ pair ∷ [])
zip_push [] [] line pair h one = (one, tt)
zip_push [] (p ∷ pairs) line pair h one = absurd h
zip_push (l ∷ lines) [] line pair h one = absurd h
zip_push (l ∷ lines) (p ∷ pairs) line pair h one = (h.0, zip_push lines pairs line pair h.1 one)

-- the lines before those that are left give the pairs, and there are so many
pub record HasRead (all left : List (List ℕ)) (number : ℕ) (pairs : List Pair) : Type 0 where
  pub before : List (List ℕ)
  pub split : all ≡ before ++ left
  pub counted : number ≡ length before
  pub read : ArePairsOf before pairs

pub begin : (all : List (List ℕ)) (pairs : List Pair) → pairs ≡ [] → HasRead all all 0 pairs
begin all pairs none = record { before = []; split = refl; counted = refl; read = subst (λ (ps : List Pair). ArePairsOf [] ps) (sym none) tt }

split_more : (before : List (List ℕ)) (line : List ℕ) (all left rest : List (List ℕ)) → all ≡ before ++ left → left ≡ line ∷ rest → all ≡ (before ++ line ∷ []) ++ rest
split_more before line all left rest e f = e ∙ ap (λ (ls : List (List ℕ)). before ++ ls) f ∙ sym (append_assoc before (line ∷ []) rest)

counted_more : (before : List (List ℕ)) (line : List ℕ) (number : ℕ) → number ≡ length before → number + 1 ≡ length (before ++ line ∷ [])
counted_more before line number e = omega (arith, length-append before (line ∷ []))

one_kept : (line : List ℕ) → is_skipped line ≡ false → filter is_kept (line ∷ []) ≡ line ∷ []
one_kept line e = ap (λ (b : Bool). cond (not b) (line ∷ []) []) e

none_kept : (line : List ℕ) → is_skipped line ≡ true → filter is_kept (line ∷ []) ≡ []
none_kept line e = ap (λ (b : Bool). cond (not b) (line ∷ []) []) e

append_none : {A : Type 0} (xs : List A) → xs ++ [] ≡ xs
append_none [] = refl
append_none (x ∷ xs) = let rest = append_none xs in cc

pub read_pair : (all left rest : List (List ℕ)) (line : List ℕ) (number : ℕ) (pairs : List Pair) (pair : Pair) → left ≡ line ∷ rest → is_skipped line ≡ false → IsRecordOf line pair
    → HasRead all left number pairs → HasRead all rest (number + 1) (pairs ++ pair ∷ [])
read_pair all left rest line number pairs pair e kept one h = record {
  before = h.before ++ line ∷ [];
  split = split_more h.before line all left rest h.split e;
  counted = counted_more h.before line number h.counted;
  read = subst (λ (ls : List (List ℕ)). AllZip IsRecordOf ls (pairs ++ pair ∷ []))
      (sym (filter-append is_kept h.before (line ∷ []) ∙ ap (λ (ls : List (List ℕ)). filter is_kept h.before ++ ls) (one_kept line kept)))
      (zip_push (filter is_kept h.before) pairs line pair h.read one);
}

pub skip_line : (all left rest : List (List ℕ)) (line : List ℕ) (number : ℕ) (pairs : List Pair) → left ≡ line ∷ rest → is_skipped line ≡ true
    → HasRead all left number pairs → HasRead all rest (number + 1) pairs
skip_line all left rest line number pairs e skipped h = record {
  before = h.before ++ line ∷ [];
  split = split_more h.before line all left rest h.split e;
  counted = counted_more h.before line number h.counted;
  read = subst (λ (ls : List (List ℕ)). AllZip IsRecordOf ls pairs)
      (sym (filter-append is_kept h.before (line ∷ []) ∙ ap (λ (ls : List (List ℕ)). filter is_kept h.before ++ ls) (none_kept line skipped) ∙ append_none (filter is_kept h.before)))
      h.read;
}

pub refuse_line : (all left rest : List (List ℕ)) (line : List ℕ) (number : ℕ) (pairs : List Pair) → left ≡ line ∷ rest → is_skipped line ≡ false → ((pair : Pair) → ¬ IsRecordOf line pair)
    → HasRead all left number pairs → IsFirstRefused all (number + 1)
refuse_line all left rest line number pairs e kept none h = record {
  before = h.before;
  line = line;
  after = rest;
  pairs = pairs;
  split = h.split ∙ ap (λ (ls : List (List ℕ)). h.before ++ ls) e;
  number_is = ap (λ (n : ℕ). n + 1) h.counted;
  read = h.read;
  refused = record { kept = kept; none = none };
}

pub read_end : (all left : List (List ℕ)) (number : ℕ) (pairs : List Pair) → left ≡ [] → HasRead all left number pairs → ArePairsOf all pairs
read_end all left number pairs e h =
    subst (λ (ls : List (List ℕ)). ArePairsOf ls pairs) (sym (h.split ∙ ap (λ (ls : List (List ℕ)). h.before ++ ls) e ∙ append_none h.before)) h.read
