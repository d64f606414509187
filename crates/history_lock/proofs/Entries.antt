-- The entries of one number in a history.
use Rattle.std.proofs.Common.{◌≡◌, ◌≢◌, ℕ, zero, suc, ◌<◌, get_or, eqb, Bool, true, false, cond, List, [], ◌∷◌, ◌++◌, length, refl, sym, ap, ◌∙◌, arith, append-nil, length-append, ne_eqb, eq-eqb}
use Rattle.std.proofs.lemmas.List.{nil_from_length}
use Rattle.std.proofs.lemmas.List.Elements.{filter-append}
use Rattle.std.specs.Prelude.{Contains}
use mathlib.Core.List.{IsPrefix}
use Rattle.history_lock.specs.Replies.{ReplyKind, accepted, fault, memory, plain, grown}
use Rattle.history_lock.specs.Replay.{own_entries}

nothing_left : {X : Type 0} (xs ys : List X) → xs ++ ys ≡ [] → xs ≡ []
nothing_left [] ys e = refl
nothing_left (x ∷ xs) ys e = absurd (cc)

module _ {C : Type 0} where
  pub own_append_else : (n : ℕ) (e : ℕ × C) (h : List (ℕ × C)) → e.0 ≢ n → own_entries n (h ++ e ∷ []) ≡ own_entries n h
  own_append_else n e h other = filter-append (λ (x : ℕ × C). eqb x.0 n) h (e ∷ []) ∙ (ap (λ b. own_entries n h ++ cond b (e ∷ []) []) (ne_eqb e.0 n other) ∙ append-nil (own_entries n h))

  pub own_grown_else : (k : ReplyKind) (n : ℕ) (e : ℕ × C) (h : List (ℕ × C)) → e.0 ≢ n → own_entries n (grown k e h) ≡ own_entries n h
  own_grown_else accepted n e h other = own_append_else n e h other
  own_grown_else fault n e h other = refl
  own_grown_else memory n e h other = refl
  own_grown_else plain n e h other = refl

  pub own_grown_same : (k : ReplyKind) (n : ℕ) (c : C) (h : List (ℕ × C)) → own_entries n (grown k (n, c) h) ≡ grown k (n, c) (own_entries n h)
  own_grown_same accepted n c h = filter-append (λ (x : ℕ × C). eqb x.0 n) h ((n, c) ∷ []) ∙ ap (λ b. own_entries n h ++ cond b ((n, c) ∷ []) []) (eq-eqb n n refl)
  own_grown_same fault n c h = refl
  own_grown_same memory n c h = refl
  own_grown_same plain n c h = refl

  -- a number without entries has none in a prefix
  pub own_prefix : (n : ℕ) (xs ys : List (ℕ × C)) → IsPrefix xs ys → own_entries n ys ≡ [] → own_entries n xs ≡ []
  own_prefix n xs ys p none = nothing_left (own_entries n xs) (own_entries n p.0) (sym (filter-append (λ (x : ℕ × C). eqb x.0 n) xs p.0) ∙ (ap (own_entries n) p.1 ∙ none))

  -- of a list whose head was filtered the rest has no entries where the whole has none
  none_behind : (b : Bool) (x : ℕ × C) (xs : List (ℕ × C)) → cond b (x ∷ xs) xs ≡ [] → xs ≡ []
  none_behind true x xs e = absurd (cc)
  none_behind false x xs e = e

  entry_at : (h : List (ℕ × C)) (k : ℕ) (e : ℕ × C) → k < length h → get_or h k e ≡ e → own_entries e.0 h ≢ []
  entry_at [] k e lt at none = absurd (omega arith)
  entry_at (x ∷ xs) zero e lt at none =
      let is = eq-eqb x.0 e.0 (ap (λ (z : ℕ × C). z.0) at) in
      let z : x ∷ own_entries e.0 xs ≡ [] = ap (λ b. cond b (x ∷ own_entries e.0 xs) (own_entries e.0 xs)) (sym is) ∙ none in absurd (cc (z))
  entry_at (x ∷ xs) (suc k) e lt at none = entry_at xs k e (omega arith) at (none_behind (eqb x.0 e.0) x (own_entries e.0 xs) none)

  -- the number of an entry has entries
  pub number_has_entries : (h : List (ℕ × C)) (e : ℕ × C) → Contains h e → own_entries e.0 h ≢ []
  number_has_entries h e c = entry_at h c.0 e c.1 c.2

  -- the entries of a number in a list between two that agree on it
  pub own_between : (n : ℕ) (xs ys zs m : List (ℕ × C)) → IsPrefix xs ys → IsPrefix ys zs → own_entries n xs ≡ m → own_entries n zs ≡ m → own_entries n ys ≡ m
  own_between n xs ys zs m p q a b =
      let e : own_entries n ys ≡ own_entries n xs ++ own_entries n p.0 = ap (own_entries n) (sym p.1) ∙ filter-append (λ (x : ℕ × C). eqb x.0 n) xs p.0 in
      let f : own_entries n zs ≡ own_entries n ys ++ own_entries n q.0 = ap (own_entries n) (sym q.1) ∙ filter-append (λ (x : ℕ × C). eqb x.0 n) ys q.0 in
      let le = ap length e ∙ length-append (own_entries n xs) (own_entries n p.0) in
      let lf = ap length f ∙ length-append (own_entries n ys) (own_entries n q.0) in
      let la = ap length a in
      let lb = ap length b in
      e ∙ (ap (λ l. own_entries n xs ++ l) (nil_from_length (own_entries n p.0) (omega arith)) ∙ (append-nil (own_entries n xs) ∙ a))
