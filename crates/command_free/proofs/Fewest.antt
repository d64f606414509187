-- The available blocks of a block are the largest blocks of the addresses that are left of it, and so the fewest.
use Rattle.std.proofs.Common.{◌≡◌, ℕ, ◌≤◌, refl, arith, Bool, true, false, not, ◌&&◌, IsTrue, List, [], ◌∷◌}
use Rattle.std.specs.List.{AllByRecursion}
use Rattle.std.proofs.lemmas.Bool.Decides.{nat_tests}
use Rattle.inet_num.specs.Net.{Cidr, HasAddress}
use Rattle.inet_num.specs.Free.{InOrder, has_address, is_taken, IsAvailable}
use Rattle.inet_num.specs.Fewest.{IsLargest}
use Rattle.inet_num.proofs.Available.{available_are_those}
use Rattle.inet_num.proofs.Fewest.{largest_are_fewest}
use Rattle.command_free.specs.Free.{AvailableAreFewest}

-- the address is one of the block and of no other block
abbrev is_left : Cidr → List Cidr → ℕ → Bool
is_left within blocks a = has_address within a && not (is_taken blocks a)

left_is : (within : Cidr) (blocks : List Cidr) (a : ℕ) → HasAddress within a → is_taken blocks a ≡ false → IsTrue (is_left within blocks a)
left_is within blocks a (low, high) free = (let has : has_address within a ≡ true = grind (arith, nat_tests) in cc)

left_inside : (within : Cidr) (blocks : List Cidr) (a : ℕ) → IsTrue (is_left within blocks a) → HasAddress within a
left_inside within blocks a left = go (has_address within a) refl left where
  go : (t : Bool) → has_address within a ≡ t → IsTrue (t && not (is_taken blocks a)) → HasAddress within a
  go true e h = (grind (arith, nat_tests), grind (arith, nat_tests))
  go false e h = cc

left_free : (within : Cidr) (blocks : List Cidr) (a : ℕ) → IsTrue (is_left within blocks a) → is_taken blocks a ≡ false
left_free within blocks a left = go (has_address within a) (is_taken blocks a) left where
  go : (t u : Bool) → IsTrue (t && not u) → u ≡ false
  go true false h = refl
  go true true h = cc
  go false u h = cc

is_largest : (within : Cidr) (blocks : List Cidr) (b : Cidr) → IsAvailable within blocks b → IsLargest within.family (λ a. IsTrue (is_left within blocks a)) b
is_largest within blocks b h = record {
  lawful = h.lawful;
  family_is = h.inside.family;
  inside = λ a i. left_is within blocks a (h.inside.each a i) (h.free a i);
  largest = λ some all. h.largest some (record { family = h.inside.family; each = λ a i. left_inside within blocks a (all a i) }) (λ a i. left_free within blocks a (all a i));
}

are_largest : (within : Cidr) (blocks bs : List Cidr) → AllByRecursion (IsAvailable within blocks) bs → AllByRecursion (IsLargest within.family (λ a. IsTrue (is_left within blocks a))) bs
are_largest within blocks [] h = tt
are_largest within blocks (b ∷ bs) h = (is_largest within blocks b h.0, are_largest within blocks bs h.1)

from_zero : (from : ℕ) (bs : List Cidr) → InOrder from bs → InOrder 0 bs
from_zero from [] h = tt
from_zero from (b ∷ bs) h = (omega arith, h.1)

pub available_are_fewest : AvailableAreFewest
available_are_fewest within blocks cs lawful just =
    let lists = available_are_those.lists within blocks lawful in
    largest_are_fewest within.family (is_left within blocks) _ cs (are_largest within blocks _ lists.each) (from_zero within.first _ lists.ordered) just
