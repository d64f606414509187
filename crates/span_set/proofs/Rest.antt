-- For callers: a block is added, and then blocks are taken away one after another.
use Rattle.std.proofs.Common.{◌≡◌, ◌⊎◌, ℕ, ◌-◌, ◌↔◌, refl, arith, inl, inr, Bool, true, false, IsTrue, List, [], ◌∷◌, ◌++◌}
use Rattle.std.proofs.lemmas.Bool.Decides.{nat_tests}
use Rattle.std.proofs.lemmas.Nat.{pow_pos}
use Rattle.inet_num.specs.Net.{Cidr, width_of, HasAddress, first_of, last_of}
use Rattle.inet_num.specs.Free.{has_address, is_taken}
use Rattle.span_set.specs.Runs.{IsBetween}
use Rattle.span_set.specs.Spans.{Spans, IsIn}
use Rattle.span_set.specs.Blocks.{IsRest}
use Rattle.span_set.proofs.Greedy.{taken_left, taken_right, taken_by}

-- the numbers of a block's span are its addresses
pub between_of_block : (b : Cidr) (a : ℕ) → IsBetween (first_of b).value (last_of b).value a ↔ HasAddress b a
between_of_block b a =
    let some = pow_pos (width_of b.family - b.len) in
    ((λ h. let l = h.0 in let u = h.1 in (omega arith, omega arith)), (λ h. let l = h.0 in let u = h.1 in (omega arith, omega arith)))

not_taken : (bs : List Cidr) (a : ℕ) → ¬ IsTrue (is_taken bs a) → is_taken bs a ≡ false
not_taken bs a h = go (is_taken bs a) refl where
  go : (t : Bool) → is_taken bs a ≡ t → t ≡ false
  go false e = refl
  go true e = absurd (h (grind arith))

taken_cases : (bs : List Cidr) (c : Cidr) (a : ℕ) → IsTrue (is_taken (bs ++ c ∷ []) a) → IsTrue (is_taken bs a) ⊎ HasAddress c a
taken_cases [] c a h = go (has_address c a) refl where
  go : (t : Bool) → has_address c a ≡ t → IsTrue (is_taken [] a) ⊎ HasAddress c a
  go true e = inr (grind (arith, nat_tests), grind (arith, nat_tests))
  go false e = let f : IsTrue false = grind arith in cc
taken_cases (b ∷ bs) c a h = go (has_address b a) refl (taken_cases bs c a) where
  go : (t : Bool) → has_address b a ≡ t → (IsTrue (is_taken (bs ++ c ∷ []) a) → IsTrue (is_taken bs a) ⊎ HasAddress c a) → IsTrue (is_taken (b ∷ bs) a) ⊎ HasAddress c a
  go true e later = inl (grind arith)
  go false e later =
      let rest : IsTrue (is_taken (bs ++ c ∷ []) a) = grind arith in
      elim (later rest) [ inl k ↦ inl (grind arith) | inr k ↦ inr k ]

-- the block alone
pub rest_none : (empty new : Spans) (within : Cidr) → empty.runs ≡ []
    → ((a : ℕ) → IsIn new a ↔ (IsIn empty a ⊎ IsBetween (first_of within).value (last_of within).value a)) → IsRest new within []
rest_none empty new within e added a =
    let span = between_of_block within a in (
      (λ h. elim ((added a).0 h) [ inl k ↦ (let f : IsTrue false = rw e at k in cc) | inr k ↦ (span.0 k, refl) ]),
      (λ h. (added a).1 (inr (span.1 h.0))),
    )

-- and with one more taken away
pub rest_more : (old new : Spans) (within c : Cidr) (blocks : List Cidr) → IsRest old within blocks
    → ((a : ℕ) → IsIn new a ↔ (IsIn old a × ¬ IsBetween (first_of c).value (last_of c).value a)) → IsRest new within (blocks ++ c ∷ [])
rest_more old new within c blocks rest taken a =
    let span = between_of_block c a in (
      (λ h.
          let was = (taken a).0 h in
          let before = (rest a).0 was.0 in (
            before.0,
            not_taken (blocks ++ c ∷ []) a (λ t. elim (taken_cases blocks c a t) [
              | inl k ↦ (let b = before.1 in let f : IsTrue false = rw b at k in cc)
              | inr k ↦ was.1 (span.1 k)
            ]),
          )),
      (λ h.
          let none = h.1 in
          (taken a).1 (
            (rest a).1 (h.0, not_taken blocks a (λ t. (let k = taken_left blocks (c ∷ []) a t in let f : IsTrue false = rw none at k in cc))),
            λ b. (let k = taken_right blocks (c ∷ []) a (taken_by c a (span.0 b)) in let f : IsTrue false = rw none at k in cc),
          )),
    )
