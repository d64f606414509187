-- What a writer's sink gained, step by step.
use Rattle.std.proofs.Common.{◌≡◌, ◌∙◌, arith, length-append, List, [], ◌∷◌, ◌++◌, ℕ, Option, Result, Ok, Err, IsErr, refl, sym, ap, subst, append_assoc}
use Rattle.std.specs.Io.KnownBytes.{Appends}
use Rattle.std.proofs.KnownBytes.{Appends-trans}
use Rattle.ipam_edge.specs.Reading.{Step}
use Rattle.ipam_edge.specs.Writing.{AppendsFront, AppendsLess, ByWrites, IsFrontOf, Writes, WritesAll}

pub writes_at_err : {E : Type 0} (old new : Option (List ℕ)) (r : Result (Unit {0}) E) (text : List ℕ) → IsErr r → AppendsFront old new text → WritesAll old new r text
writes_at_err old new (Ok x) text h f = cc h
writes_at_err old new (Err e) text h f = f

pub front_longer : (front text more : List ℕ) → IsFrontOf front text → IsFrontOf front (text ++ more)
front_longer front text more h = (h.0 ++ more, ap (λ t. t ++ more) h.1 ∙ append_assoc front h.0 more)

pub front_after : (before front text : List ℕ) → IsFrontOf front text → IsFrontOf (before ++ front) (before ++ text)
front_after before front text h = (h.0, ap (λ t. before ++ t) h.1 ∙ sym (append_assoc before front h.0))

-- a front of the text stays one of a longer text
pub appends_front_longer : (old new : Option (List ℕ)) (text more : List ℕ) → AppendsFront old new text → AppendsFront old new (text ++ more)
appends_front_longer old new text more h = (h.0, front_longer h.0 text more h.1, h.2)

-- some text was written, and then a front of the next
pub appends_front_after : (old mid new : Option (List ℕ)) (before text : List ℕ) → Appends old mid before → AppendsFront mid new text → AppendsFront old new (before ++ text)
appends_front_after old mid new before text h f = (before ++ f.0, front_after before f.0 text f.1, Appends-trans _ _ _ _ _ h f.2)

-- a shorter front of the text is one of a longer text
pub appends_less_longer : (old new : Option (List ℕ)) (text more : List ℕ) → AppendsLess old new text → AppendsLess old new (text ++ more)
appends_less_longer old new text more h =
    record {
      front = h.front;
      rest = h.rest ++ more;
      parts = ap (λ t. t ++ more) h.parts ∙ append_assoc h.front h.rest more;
      some = omega (arith, h.some, length-append h.rest more);
      appended = h.appended;
    }

-- some text was written, and then a shorter front of the next
pub appends_less_after : (old mid new : Option (List ℕ)) (before text : List ℕ) → Appends old mid before → AppendsLess mid new text → AppendsLess old new (before ++ text)
appends_less_after old mid new before text h f =
    record {
      front = before ++ f.front;
      rest = f.rest;
      parts = ap (λ t. before ++ t) f.parts ∙ sym (append_assoc before f.front f.rest);
      some = f.some;
      appended = Appends-trans _ _ _ _ _ h f.appended;
    }

module _ {S : Type 0} (step : Step S) where
  writes_joined : (s : S) (ps : List (Option (List ℕ))) (m : S) (qs : List (Option (List ℕ))) (t : S) → Writes step s ps m → Writes step m qs t → Writes step s (ps ++ qs) t
  writes_joined s [] m qs t first second = subst (λ (x : S). Writes step x qs t) first second
  writes_joined s (p ∷ ps) m qs t (mid, stepped, rest) second = (mid, stepped, writes_joined mid ps m qs t rest second)

  -- no write
  pub write_nothing : (s t : S) → t ≡ s → ByWrites step s t
  write_nothing s t e = record { pieces = []; writes = e }

  -- one write
  pub write_piece : (s t : S) (piece : Option (List ℕ)) → step s piece t → ByWrites step s t
  write_piece s t piece stepped = record { pieces = piece ∷ []; writes = (t, stepped, refl) }

  -- writes behind writes
  pub write_then : (s m t : S) → ByWrites step s m → ByWrites step m t → ByWrites step s t
  write_then s m t first second = record { pieces = first.pieces ++ second.pieces; writes = writes_joined s first.pieces m second.pieces t first.writes second.writes }

  -- what a write leaves as it was is so after writes
  kept_in_writes : {A : Type 0} (f : S → A) → ((a b : S) (g : Option (List ℕ)) → step a g b → f b ≡ f a) → (s : S) (ps : List (Option (List ℕ))) (t : S) → Writes step s ps t → f t ≡ f s
  kept_in_writes f law s [] t e = ap f e
  kept_in_writes f law s (p ∷ ps) t (mid, stepped, rest) = kept_in_writes f law mid ps t rest ∙ law s mid p stepped

  pub kept_by_writes : {A : Type 0} (f : S → A) → ((a b : S) (g : Option (List ℕ)) → step a g b → f b ≡ f a) → (s t : S) → ByWrites step s t → f t ≡ f s
  kept_by_writes f law s t writes = kept_in_writes f law s writes.pieces t writes.writes
