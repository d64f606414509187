use Rattle.std.proofs.Common.{◌≡◌, ◌+◌, ◌-◌, ◌<◌, refl, arith, inl, inr, Bool, true, false, List, [], ◌∷◌}
use Rattle.std.specs.List.{list_any}
use Rattle.std.proofs.lemmas.Bool.{cases_lt}
use Rattle.std.proofs.lemmas.Bool.Decides.{nat_tests}
use Rattle.std.proofs.lemmas.Nat.{pow_pos}
use Rattle.inet_num.specs.Net.{width_of, Cidr, size_of}
use Rattle.inet_num.specs.Free.{IsFree, is_taken, has_address, meets}

-- none is_taken: no block of the list meets it
pub free_by_test : (blocks : List Cidr) (b : Cidr) → list_any (meets b) blocks ≡ false → IsFree blocks b
free_by_test [] b e a h = refl
free_by_test (c ∷ blocks) b e a h =
    let apart : meets b c ≡ false = grind arith in
    let rest : list_any (meets b) blocks ≡ false = grind arith in
    let later = free_by_test blocks b rest a h in
    let here : has_address c a ≡ false = grind (arith, nat_tests) in
    rw (here, later) refl

-- an address of both is is_taken
met_is_taken : (c : Cidr) (blocks : List Cidr) (b : Cidr) → meets b c ≡ true → IsFree (c ∷ blocks) b → ⊥
met_is_taken c blocks b e h =
    let some_b = pow_pos (width_of b.family - b.len) in
    let some_c = pow_pos (width_of c.family - c.len) in
    elim (cases_lt b.first c.first) [
      | inl less ↦
          let end : c.first < b.first + size_of b = grind (arith, nat_tests) in
          let free : is_taken (c ∷ blocks) c.first ≡ false = h c.first (omega arith, omega arith) in
          let here : has_address c c.first ≡ true = grind (arith, nat_tests) in
          grind arith
      | inr more ↦
          let end : b.first < c.first + size_of c = grind (arith, nat_tests) in
          let free : is_taken (c ∷ blocks) b.first ≡ false = h b.first (omega arith, omega arith) in
          let here : has_address c b.first ≡ true = grind (arith, nat_tests) in
          grind arith
    ]

-- some block meets it: one of its addresses_of is is_taken
pub not_free_by_test : (blocks : List Cidr) (b : Cidr) → list_any (meets b) blocks ≡ true → IsFree blocks b → ⊥
not_free_by_test [] b e h = cc
not_free_by_test (c ∷ blocks) b e h = go (meets b c) refl (not_free_by_test blocks b) where
  go : (t : Bool) → meets b c ≡ t → (list_any (meets b) blocks ≡ true → IsFree blocks b → ⊥) → ⊥
  go true met later = met_is_taken c blocks b met h
  go false apart later =
      let rest : list_any (meets b) blocks ≡ true = grind arith in
      let smaller : IsFree blocks b = λ a k. (let both : is_taken (c ∷ blocks) a ≡ false = h a k in grind arith) in
      later rest smaller
