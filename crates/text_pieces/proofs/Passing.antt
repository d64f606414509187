-- A text that is written by pieces: a front was written, and the rest is in the buffer.
use Rattle.std.proofs.Common.{◌≡◌, ℕ, refl, sym, ◌∙◌, ap, subst, List, [], ◌++◌, Option, Result, Ok, Err, IsErr, append_assoc, append-nil}
use Rattle.std.specs.Io.KnownBytes.{Appends}
use Rattle.std.proofs.KnownBytes.{Appends-trans, Appends-nil}
use Rattle.ipam_edge.specs.Writing.{AppendsFront, WritesAll}
use Rattle.text_pieces.specs.Pieces.{Passes, Puts}

-- nothing was written, and the text is in the buffer
pub passes_kept : (a : Option (List ℕ)) (piece after text : List ℕ) → after ≡ piece ++ text → Passes a a piece after text
passes_kept a piece after text is = record { front = []; told = Appends-nil a; rest = is }

-- the whole buffer was written
pub passes_piece : (a b : Option (List ℕ)) (piece : List ℕ) → Appends a b piece → Passes a b piece [] []
passes_piece a b piece told = record { front = piece; told = told; rest = refl }

-- the buffer was empty, and the whole text was written
pub passes_through : (a b : Option (List ℕ)) (piece after text : List ℕ) → piece ≡ [] → after ≡ piece → Appends a b text → Passes a b piece after text
passes_through a b piece after text empty same told = record {
  front = text;
  told = told;
  rest = ap (λ (s : List ℕ). text ++ s) (same ∙ empty) ∙ append-nil text ∙ ap (λ (s : List ℕ). s ++ text) (sym empty);
}

-- two texts, one after the other
pub passes_both : (a b c : Option (List ℕ)) (p q r t u : List ℕ) → Passes a b p q t → Passes b c q r u → Passes a c p r (t ++ u)
passes_both a b c p q r t u h k = record {
  front = h.front ++ k.front;
  told = Appends-trans a b c h.front k.front h.told k.told;
  rest = append_assoc h.front k.front r
      ∙ ap (λ (s : List ℕ). h.front ++ s) k.rest
      ∙ sym (append_assoc h.front q u)
      ∙ ap (λ (s : List ℕ). s ++ u) h.rest
      ∙ append_assoc p t u;
}

-- a text, and a front of the next
pub front_both : (a b c : Option (List ℕ)) (p q t u : List ℕ) → Passes a b p q t → AppendsFront b c (q ++ u) → AppendsFront a c (p ++ (t ++ u))
front_both a b c p q t u h (more, (rest, is), said) = (
  h.front ++ more,
  (
    rest,
    sym (append_assoc p t u)
        ∙ ap (λ (s : List ℕ). s ++ u) (sym h.rest)
        ∙ append_assoc h.front q u
        ∙ ap (λ (s : List ℕ). h.front ++ s) is
        ∙ sym (append_assoc h.front more rest),
  ),
  Appends-trans a b c h.front more h.told said,
)

-- a front of the first text
pub front_first : (a b : Option (List ℕ)) (p t u : List ℕ) → AppendsFront a b (p ++ t) → AppendsFront a b (p ++ (t ++ u))
front_first a b p t u (more, (rest, is), said) = (
  more,
  (rest ++ u, sym (append_assoc p t u) ∙ ap (λ (s : List ℕ). s ++ u) is ∙ append_assoc more rest u),
  said,
)

-- what the next text leaves, behind the first
pub puts_both : {E : Type 0} (a b c : Option (List ℕ)) (p q r t u : List ℕ) (result : Result (Unit {0}) E) → Passes a b p q t → Puts b c q r u result → Puts a c p r (t ++ u) result
puts_both a b c p q r t u (Ok x) h k = passes_both a b c p q r t u h k
puts_both a b c p q r t u (Err e) h k = front_both a b c p q t u h k

-- the first text was not put
pub puts_front : {E : Type 0} (a b : Option (List ℕ)) (p r t u : List ℕ) (result : Result (Unit {0}) E) → IsErr result → AppendsFront a b (p ++ t) → Puts a b p r (t ++ u) result
puts_front a b p r t u (Ok x) h f = cc h
puts_front a b p r t u (Err e) h f = front_first a b p t u f

pub puts_at_err : {E : Type 0} (a b : Option (List ℕ)) (p r t : List ℕ) (result : Result (Unit {0}) E) → IsErr result → AppendsFront a b (p ++ t) → Puts a b p r t result
puts_at_err a b p r t (Ok x) h f = cc h
puts_at_err a b p r t (Err e) h f = f

-- the text is put, and the buffer is written
pub whole_behind : {E : Type 0} (a b c : Option (List ℕ)) (first piece text : List ℕ) (result : Result (Unit {0}) E) → first ≡ [] → Passes a b first piece text → WritesAll b c result piece
    → WritesAll a c result text
whole_behind a b c first piece text (Ok x) empty h k = subst (Appends a c) (h.rest ∙ ap (λ (s : List ℕ). s ++ text) empty) (Appends-trans a b c h.front piece h.told k)
whole_behind a b c first piece text (Err e) empty h (more, (rest, is), said) = (
  h.front ++ more,
  (rest, ap (λ (s : List ℕ). s ++ text) (sym empty) ∙ sym h.rest ∙ ap (λ (s : List ℕ). h.front ++ s) is ∙ sym (append_assoc h.front more rest)),
  Appends-trans a b c h.front more h.told said,
)

-- the buffer is empty, and the text was written at once
pub puts_through : {E : Type 0} (a b : Option (List ℕ)) (after text : List ℕ) (result : Result (Unit {0}) E) → after ≡ [] → WritesAll a b result text → Puts a b [] after text result
puts_through a b after text (Ok x) empty told = passes_through a b [] after text refl empty told
puts_through a b after text (Err e) empty told = told
