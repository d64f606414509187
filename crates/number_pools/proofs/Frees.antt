-- The addresses that the tree gives are the free numbers.
use Rattle.std.proofs.Common.{◌≡◌, ℕ, zero, suc, ◌+◌, ◌-◌, ◌%◌, ◌<◌, ◌≤◌, ◌==◌, ◌&&◌, ◌||◌, refl, sym, ◌∙◌, ap, arith, Bool, true, false, not, cond, List, [], ◌∷◌, length, take, map, filter, Result, Ok, Err, IfOk}
use Rattle.std.specs.List.{AllByRecursion}
use Rattle.std.proofs.lemmas.Bool.Decides.{nat_tests}
use Rattle.std.proofs.lemmas.List.Elements.{All-from_recursion, recursion_from_All}
use Rattle.std.proofs.lemmas.List.Sorted.{All-permutation, list_any-IsPermutation}
use Rattle.inet_num.specs.declared.Family.TheVariants.{V6}
use Rattle.inet_num.specs.Net.{Address, Cidr, width_of}
use Rattle.inet_num.specs.Count.{numbers_from}
use Rattle.inet_num.specs.Free.{has_address, is_taken}
use Rattle.block_space.specs.Listed.{counting_of}
use Rattle.block_space.specs.Usable.{AreSingles, addressed}
use Rattle.block_space.proofs.Singles.{taken_inside}
use Rattle.free_space.specs.Untaken.{untaken_between}
use Rattle.free_space.proofs.Passing.{same_between}
use Rattle.free_space.proofs.Singles.{is_untaken, untaken_is}
use Rattle.number_pools.specs.declared.rows.NumberRange.{NumberRange}
use Rattle.number_pools.specs.declared.rows.Member.{Member}
use Rattle.number_pools.specs.Rows.{Pools}
use Rattle.number_pools.specs.Free.{free_numbers, is_held, pool_at, pool_of}
use Rattle.number_pools.specs.Keys.{AreKeys, free_between, key_block, key_of, pool_size}

-- ---- numbers and addresses

abbrev pub low_of : Address → ℕ
low_of a = a.value % pool_size

low_key : (pool n : ℕ) → n < pool_size → key_of pool n % pool_size ≡ n
low_key pool n lt = omega arith

-- the low bits of the addresses of a pool that pass a test are the numbers that pass it
lows : (p : ℕ → Bool) (pool first k : ℕ) → first + k ≤ pool_size → map low_of (addressed V6 (filter p (numbers_from (key_of pool first) k))) ≡ filter (λ n. p (key_of pool n)) (numbers_from first k)
unfolding numbers_from
lows p pool first zero le = refl
lows p pool first (suc k) le =
    let next : key_of pool first + 1 ≡ key_of pool (first + 1) = omega arith in
    let low = low_key pool first (omega arith) in
    go (p (key_of pool first)) low (ap (λ (a : ℕ). map low_of (addressed V6 (filter p (numbers_from a k)))) next ∙ lows p pool (first + 1) k (omega arith)) where
      go : (t : Bool) → key_of pool first % pool_size ≡ first
          → map low_of (addressed V6 (filter p (numbers_from (key_of pool first + 1) k))) ≡ filter (λ n. p (key_of pool n)) (numbers_from (first + 1) k)
          → map low_of (addressed V6 (cond t (key_of pool first ∷ filter p (numbers_from (key_of pool first + 1) k)) (filter p (numbers_from (key_of pool first + 1) k))))
          ≡ cond t (first ∷ filter (λ n. p (key_of pool n)) (numbers_from (first + 1) k)) (filter (λ n. p (key_of pool n)) (numbers_from (first + 1) k))
      go true low rest = λ i. low i ∷ rest i
      go false low rest = rest

map_take : {X Y : Type 0} (f : X → Y) (n : ℕ) (xs : List X) → map f (take n xs) ≡ take n (map f xs)
map_take f zero xs = refl
map_take f (suc n) [] = refl
map_take f (suc n) (x ∷ xs) = ap (λ (ys : List _). f x ∷ ys) (map_take f n xs)

-- all addresses of IPv6
abbrev pub everywhere : Cidr
everywhere = record { family = V6; first = 0; len = 0 }

-- what the tree gives, by what it holds
pub found_free : (held : List Cidr) (pool first last limit : ℕ) (addrs : List Address) → AreSingles held → pool < pool_size → first ≤ last → last < pool_size
    → addrs ≡ take limit (addressed V6 (untaken_between (counting_of held everywhere false) (key_of pool first) (key_of pool last + 1)))
    → map low_of addrs ≡ take limit (free_between held pool first last)
unfolding free_between
found_free held pool first last limit addrs s small order fits is =
    let n : key_of pool last + 1 - key_of pool first ≡ last + 1 - first = omega arith in
    let all : untaken_between (counting_of held everywhere false) (key_of pool first) (key_of pool last + 1) ≡ filter (is_untaken held) (numbers_from (key_of pool first) (last + 1 - first)) =
    untaken_is (counting_of held everywhere false) (key_of pool first) (key_of pool last + 1)
    ∙ same_between (is_untaken (counting_of held everywhere false)) (is_untaken held) (key_of pool first) (key_of pool last + 1) (λ x low high. ap not (taken_inside everywhere held x s (omega arith, omega arith)))
    ∙ ap (λ (k : ℕ). filter (is_untaken held) (numbers_from (key_of pool first) k)) n in
    ap (map low_of) is ∙ map_take low_of limit (addressed V6 (untaken_between (counting_of held everywhere false) (key_of pool first) (key_of pool last + 1)))
    ∙ ap (λ (xs : List ℕ). take limit (map low_of (addressed V6 xs))) all
    ∙ ap (take limit) (lows (is_untaken held) pool first (last + 1 - first) (omega arith))

-- ---- what members hold

has_key : (a x b y : ℕ) → x < pool_size → y < pool_size → has_address (record { family = V6; first = key_of a x; len = 128 }) (key_of b y) ≡ (a == b && x == y)
has_key a x b y lx ly = go (a == b) refl (x == y) refl where
  go : (s : Bool) → (a == b) ≡ s → (t : Bool) → (x == y) ≡ t → has_address (record { family = V6; first = key_of a x; len = 128 }) (key_of b y) ≡ (s && t)
  go true e true f = grind (arith, nat_tests)
  go true e false f = grind (arith, nat_tests)
  go false e true f = grind (arith, nat_tests)
  go false e false f = grind (arith, nat_tests)

-- each number is one of a pool
abbrev pub AreNumbers : List Member → Type 0
AreNumbers members = AllByRecursion (λ m. m.number < pool_size) members

keys_held : (ranges : List NumberRange) (members : List Member) (pool n : ℕ) → n < pool_size → AreNumbers members → is_taken (map (key_block ranges) members) (key_of pool n) ≡ is_held ranges members pool n
keys_held ranges [] pool n lt all = refl
keys_held ranges (m ∷ ms) pool n lt all =
    let here = has_key (pool_at ranges m) m.number pool n all.0 lt in
    let rest = keys_held ranges ms pool n lt all.1 in
    ap (λ (b : Bool). b || is_taken (map (key_block ranges) ms) (key_of pool n)) here ∙ ap (λ (b : Bool). (pool_at ranges m == pool && m.number == n) || b) rest

pub taken_held : (ranges : List NumberRange) (members : List Member) (held : List Cidr) (pool n : ℕ) → n < pool_size → AreNumbers members → AreKeys ranges members held → is_taken held (key_of pool n) ≡ is_held ranges members pool n
taken_held ranges members held pool n lt all keys =
    sym (list_any-IsPermutation (λ c. has_address c (key_of pool n)) (map (key_block ranges) members) held keys) ∙ keys_held ranges members pool n lt all

-- the free numbers of the definition
pub free_is : (s : Pools) (range : NumberRange) (held : List Cidr) → AreNumbers s.members.rows → AreKeys s.ranges.rows s.members.rows held → range.last < pool_size
    → free_between held (pool_of range) range.first range.last ≡ free_numbers s range
unfolding free_between
free_is s range held all keys fits =
    same_between (λ n. not (is_taken held (key_of (pool_of range) n))) (λ n. not (is_held s.ranges.rows s.members.rows (pool_of range) n)) range.first (range.last + 1)
    (λ x low high. ap not (taken_held s.ranges.rows s.members.rows held (pool_of range) x (omega arith) all keys))

-- ---- each block that members hold is one address

singles_of : (ranges : List NumberRange) (members : List Member) → AreSingles (map (key_block ranges) members)
singles_of ranges [] = tt
singles_of ranges (m ∷ ms) = (refl, singles_of ranges ms)

pub are_singles : (ranges : List NumberRange) (members : List Member) (held : List Cidr) → AreKeys ranges members held → AreSingles held
are_singles ranges members held keys =
    recursion_from_All (λ (b : Cidr). b.len ≡ width_of b.family) held
    (All-permutation (λ (b : Cidr). b.len ≡ width_of b.family) (map (key_block ranges) members) held keys (All-from_recursion (λ (b : Cidr). b.len ≡ width_of b.family) (map (key_block ranges) members) (singles_of ranges members)))

-- ---- what the functions leave

pub in_ok : {T E : Type 0} (r : Result T E) (P Q : T → Type 0) → ((x : T) → P x → Q x) → IfOk r P → IfOk r Q
in_ok (Ok x) P Q f p = f x p
in_ok (Err e) P Q f p = tt

take_few : {X : Type 0} (n : ℕ) (xs : List X) → length (take n xs) ≤ n
take_few zero xs = omega arith
take_few (suc n) [] = omega arith
take_few (suc n) (x ∷ xs) = let r = take_few n xs in omega arith

pub few_taken : (n : ℕ) (xs ys : List ℕ) → xs ≡ take n ys → length xs ≤ n
few_taken n xs ys e = let l = take_few n ys in let s = ap length e in omega arith
