-- Bytes that grow.
use Rattle.std.proofs.Common.{arith, inl, inr, subst, length, length-append, ◌≡◌, ◌∙◌, ◌≤◌, ◌+◌, ◌-◌, ℕ, List, [], ◌++◌, Option, take, drop, sym, ap, append_assoc, append-nil, take-append-drop}
use Rattle.std.proofs.lemmas.List.{drop-drop}
use Rattle.std.proofs.KnownBytes.{Consumes-nil, Consumes-trans}
use Rattle.http_session.specs.Steps.{Grown, IsReadWhile}

pub Grown-refl : (left : Option (List ℕ)) (bytes : List ℕ) → Grown left left bytes bytes
Grown-refl left bytes = record { got = []; consumes = Consumes-nil left; grown = sym (append-nil bytes) }

pub Grown-trans : (a b c : Option (List ℕ)) (xs ys zs : List ℕ) → Grown a b xs ys → Grown b c ys zs → Grown a c xs zs
Grown-trans a b c xs ys zs p q =
    record { got = p.got ++ q.got; consumes = Consumes-trans a b c p.got q.got p.consumes q.consumes; grown = q.grown ∙ ap (λ l. l ++ q.got) p.grown ∙ append_assoc xs p.got q.got }

-- three parts of a list
pub three_parts : (xs : List ℕ) (a b : ℕ) → a ≤ b → xs ≡ take a xs ++ (take (b - a) (drop a xs) ++ drop b xs)
three_parts xs a b h =
    let behind : a + (b - a) ≡ b = omega arith in
    sym (take-append-drop a xs)
    ∙ ap (λ l. take a xs ++ l) (sym (take-append-drop (b - a) (drop a xs)) ∙ ap (λ l. take (b - a) (drop a xs) ++ l) (drop-drop (b - a) a xs ∙ ap (λ k. drop k xs) behind))

-- one more piece was read, of bytes of which P held
pub read_on : (P : List ℕ → Type 0) (start now new first got : List ℕ) → now ≡ start ++ first → new ≡ now ++ got → length new ≤ length now + 4096 → P now → IsReadWhile P start new
read_on P start now new first got earlier grown most here =
    inr (record {
      more = first;
      last = got;
      grown = grown ∙ ap (λ l. l ++ got) earlier;
      short = omega (arith, ap length grown, length-append now got);
      before = subst P earlier here;
    })

-- no more was read
pub read_none : (P : List ℕ → Type 0) (start now new : List ℕ) → new ≡ now → IsReadWhile P start now → IsReadWhile P start new
read_none P start now new same h = subst (IsReadWhile P start) (sym same) h

-- a weaker fact held too
pub read_weaker : (P Q : List ℕ → Type 0) (start now : List ℕ) → ((bytes : List ℕ) → P bytes → Q bytes) → IsReadWhile P start now → IsReadWhile Q start now
read_weaker P Q start now weaker (inl e) = inl e
read_weaker P Q start now weaker (inr h) = inr (record { more = h.more; last = h.last; grown = h.grown; short = h.short; before = weaker (start ++ h.more) h.before })

-- two readings, one after the other
pub read_both : (P Q : List ℕ → Type 0) (start mid now got : List ℕ) → mid ≡ start ++ got → ((more : List ℕ) → P (mid ++ more) → Q (mid ++ more))
    → IsReadWhile Q start mid → IsReadWhile P mid now → IsReadWhile Q start now
read_both P Q start mid now got grown stronger first (inl e) = read_none Q start mid now e first
read_both P Q start mid now got grown stronger first (inr h) =
    let joined : mid ++ h.more ≡ start ++ (got ++ h.more) = ap (λ l. l ++ h.more) grown ∙ append_assoc start got h.more in
    inr (record {
      more = got ++ h.more;
      last = h.last;
      grown = h.grown ∙ ap (λ l. l ++ h.last) joined;
      short = h.short;
      before = subst Q joined (stronger h.more h.before);
    })
