-- A number that the tree does not have is that of no member.
use Rattle.std.proofs.Common.{◌≡◌, ℕ, ◌<◌, ◌==◌, ◌&&◌, Bool, true, false, List, [], ◌∷◌, find, None, refl, subst, arith, Contains}
use Rattle.std.proofs.lemmas.Bool.Decides.{nat_tests}
use Rattle.inet_num.specs.declared.Family.TheVariants.{V6}
use Rattle.inet_num.specs.Net.{Cidr}
use Rattle.block_space.specs.Listed.{times_of}
use Rattle.ipam_data.proofs.RowLists.{contains_head, contains_rest}
use Rattle.number_pools.specs.declared.rows.NumberRange.{NumberRange}
use Rattle.number_pools.specs.declared.rows.Member.{Member}
use Rattle.number_pools.specs.Free.{holds, pool_at}
use Rattle.number_pools.specs.Keys.{AreKeys, key_block, key_of}
use Rattle.pool_rows.proofs.KeysStay.{key_held}

-- the block of a number of a pool
abbrev pub key_at : ℕ → ℕ → Cidr
key_at pool n = record { family = V6; first = key_of pool n; len = 128 }

both : (a b : Bool) → (a && b) ≡ true → (a ≡ true) × (b ≡ true)
both true b e = (refl, e)
both false b e = cc

-- that of a member that holds it
own_key : (ranges : List NumberRange) (pool n : ℕ) (m : Member) → holds ranges pool n m ≡ true → key_block ranges m ≡ key_at pool n
own_key ranges pool n m e =
    let h = both (pool_at ranges m == pool) (m.number == n) e in
    let p : pool_at ranges m ≡ pool = (let t = h.0 in grind (arith, nat_tests, t)) in
    let q : m.number ≡ n = (let t = h.1 in grind (arith, nat_tests, t)) in
    λ i. key_at (p i) (q i)

none_passes : (test : Member → Bool) (xs : List Member) → ((x : Member) → Contains xs x → test x ≡ false) → find test xs ≡ None
none_passes test [] h = refl
none_passes test (x ∷ xs) h = rw (h x (contains_head x xs)) (none_passes test xs (λ y c. h y (contains_rest x y xs c)))

pub no_holder : (ranges : List NumberRange) (members : List Member) (pool n : ℕ) (held : List Cidr) → AreKeys ranges members held → times_of held (key_at pool n) ≡ 0
    → find (holds ranges pool n) members ≡ None
no_holder ranges members pool n held keys none = none_passes (holds ranges pool n) members (λ m c. go m c (holds ranges pool n m) refl)
  where
    go : (m : Member) → Contains members m → (t : Bool) → holds ranges pool n m ≡ t → t ≡ false
    go m c false e = refl
    go m c true e =
        let there = subst (λ (b : Cidr). 0 < times_of held b) (own_key ranges pool n m e) (key_held ranges members m held c keys) in
        absurd (omega arith)
