-- The numbers of lawful pools are below 2^32.
use Rattle.std.proofs.Common.{◌≡◌, ℕ, suc, ◌<◌, ◌==◌, subst, arith, Bool, true, false, cond, List, [], ◌∷◌, Contains, Some, refl}
use Rattle.ipam_data.specs.RowList.{row_at, AllAre}
use Rattle.number_pools.specs.declared.rows.PoolKind.{PoolKind}
use Rattle.number_pools.specs.declared.rows.PoolKind.TheVariants.{Asn, Vlan}
use Rattle.number_pools.specs.declared.rows.NumberRange.{NumberRange}
use Rattle.number_pools.specs.declared.rows.Member.{Member}
use Rattle.number_pools.specs.Rows.{Pools, most_of, range_id}
use Rattle.number_pools.specs.Lawful.{IsInBounds, IsInRange, IsLawfulPools}
use Rattle.number_pools.specs.Keys.{pool_size}
use Rattle.number_pools.proofs.Frees.{AreNumbers}

contains_head : {A : Type 0} (x : A) (xs : List A) → Contains (x ∷ xs) x
contains_head x xs = (0, omega arith, refl)

contains_rest : {A : Type 0} (x y : A) (xs : List A) → Contains xs y → Contains (x ∷ xs) y
contains_rest x y xs c = (let l = c.1 in (suc c.0, omega arith, c.2))

found_there : (rows : List NumberRange) (n : ℕ) (x : NumberRange) → row_at range_id rows n ≡ Some x → Contains rows x
found_there [] n x e = cc
found_there (y ∷ ys) n x e = go (y.id == n) e (found_there ys n x) where
  go : (t : Bool) → cond t (Some y) (row_at range_id ys n) ≡ Some x → (row_at range_id ys n ≡ Some x → Contains ys x) → Contains (y ∷ ys) x
  go true e ih = (let is : y ≡ x = cc in subst (Contains (y ∷ ys)) is (contains_head y ys))
  go false e ih = contains_rest y x ys (ih e)

pub most_small : (kind : PoolKind) → most_of kind < pool_size
most_small Asn = omega arith
most_small Vlan = omega arith

small : (ranges : List NumberRange) → AllAre IsInBounds ranges → (m : Member) → IsInRange ranges m → m.number < pool_size
small ranges bounds m h =
    let b = bounds h.0 (found_there ranges m.range h.0 h.1) in
    let top = most_small h.0.kind in
    let last = b.2 in
    let high = h.3 in
    omega arith

all_small : (ranges : List NumberRange) (members : List Member) → AllAre IsInBounds ranges → AllAre (IsInRange ranges) members → AreNumbers members
all_small ranges [] bounds within = tt
all_small ranges (m ∷ ms) bounds within =
    (small ranges bounds m (within m (contains_head m ms)), all_small ranges ms bounds (λ x c. within x (contains_rest m x ms c)))

pub lawful_numbers : (s : Pools) → IsLawfulPools s → AreNumbers s.members.rows
lawful_numbers s l = all_small s.ranges.rows s.members.rows l.bounds l.within
