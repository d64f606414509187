-- Which addresses a space of hosts has, and which addresses spans have, said of the rows that they are of.
use Rattle.std.proofs.Common.{◌≡◌, ℕ, zero, suc, ◌+◌, ◌-◌, ◌^◌, ◌<◌, ◌≤◌, ◌==◌, ◌&&◌, ◌||◌, Bool, true, false, cond, not, nat_lt, nat_le, List, [], ◌∷◌, Option, Some, None, is_some, refl, ap, sym, subst, ◌∙◌, arith, map, filter, IsPermutation}
use Rattle.std.specs.List.{list_any, AllByRecursion}
use Rattle.std.proofs.lemmas.Bool.Decides.{nat_tests}
use Rattle.std.proofs.lemmas.List.Sorted.{All-permutation, list_any-IsPermutation, IsPermutation-sym}
use Rattle.std.proofs.lemmas.List.Elements.{All-from_recursion, recursion_from_All}
use Rattle.inet_num.specs.declared.Family.{Family}
use Rattle.inet_num.specs.Net.{width_of, Address, Cidr, size_of, block_at, first_of, last_of, HasAddress}
use Rattle.inet_num.specs.Free.{has_address, is_taken}
use Rattle.inet_num.specs.Blocks.{same_family, block_holds}
use Rattle.block_space.specs.Usable.{AreSingles}
use Rattle.ipam_data.specs.declared.kinds.Table.{Table}
use Rattle.ipam_data.specs.declared.address.IpAddress.{IpAddress}
use Rattle.ipam_data.specs.declared.prefix.Prefix.{Prefix}
use Rattle.ipam_data.specs.declared.range.IpRange.{IpRange}
use Rattle.ipam_data.specs.Tables.{table_of, same_table}
use Rattle.placed_book.specs.Book.{Placed, TableBlocks, table_at, is_there, blocks_in, blocks_at, is_of, blocks_of_rows, blocks_of_all}
use Rattle.placed_book.specs.Kinds.{placed_address}
use Rattle.ipam_data.specs.Claims.{sees_all, is_child_address, is_hosted, is_host_beside}
use Rattle.register_claims.specs.Hosts.{HasHosts, HasJust}

-- ---- tests over lists

pub any_same : {A : Type 0} (p q : A → Bool) (xs : List A) → ((x : A) → p x ≡ q x) → list_any p xs ≡ list_any q xs
any_same p q [] h = refl
any_same p q (x ∷ xs) h = ap (λ (t : Bool). t || list_any p xs) (h x) ∙ ap (λ (t : Bool). q x || t) (any_same p q xs h)

-- a test of what is made of the items that pass another one
pub any_made : {A B : Type 0} (f : A → B) (p : A → Bool) (q : B → Bool) (xs : List A) → list_any q (map f (filter p xs)) ≡ list_any (λ x. p x && q (f x)) xs
any_made f p q [] = refl
any_made f p q (x ∷ xs) = go (p x) (any_made f p q xs) where
  go : (t : Bool) → list_any q (map f (filter p xs)) ≡ list_any (λ y. p y && q (f y)) xs
      → list_any q (map f (cond t (x ∷ filter p xs) (filter p xs))) ≡ ((t && q (f x)) || list_any (λ y. p y && q (f y)) xs)
  go true ih = ap (λ (u : Bool). q (f x) || u) ih
  go false ih = ih

any_map : {A B : Type 0} (f : A → B) (q : B → Bool) (xs : List A) → list_any q (map f xs) ≡ list_any (λ x. q (f x)) xs
any_map f q [] = refl
any_map f q (x ∷ xs) = ap (λ (u : Bool). q (f x) || u) (any_map f q xs)

-- ---- hosts as blocks of one address

abbrev block_of : Placed → Cidr
block_of p = p.block

-- such a block has its address alone
single_has : (x : Address) (a : ℕ) → has_address (block_at x (width_of x.family)) a ≡ (x.value == a)
single_has x a =
    let none : width_of x.family - width_of x.family ≡ 0 = omega arith in
    let one : 2 ^ (width_of x.family - width_of x.family) ≡ 1 = ap (λ (k : ℕ). 2 ^ k) none in
    go (2 ^ (width_of x.family - width_of x.family)) one
  where
    go : (size : ℕ) → size ≡ 1 → (nat_le x.value a && nat_lt a (x.value + size)) ≡ (x.value == a)
    go size e = grind (arith, nat_tests, e)

-- the blocks of the rows that pass a test by their places have an address where a row that passes has it
taken_of : (p : Placed → Bool) (rows : List IpAddress) (a : ℕ) → is_taken (map block_of (filter p (map placed_address rows))) a ≡ list_any (λ r. p (placed_address r) && r.host.addr.value == a) rows
taken_of p rows a =
    any_made block_of p (λ c. has_address c a) (map placed_address rows)
    ∙ any_map placed_address (λ q. p q && has_address q.block a) rows
    ∙ any_same (λ r. p (placed_address r) && has_address (placed_address r).block a) (λ r. p (placed_address r) && r.host.addr.value == a) rows
    (λ r. ap (λ (t : Bool). p (placed_address r) && t) (single_has r.host.addr a))

-- and each of them is one address
singles_of : (p : Placed → Bool) (rows : List IpAddress) → AreSingles (map block_of (filter p (map placed_address rows)))
singles_of p [] = tt
singles_of p (r ∷ rs) = go (p (placed_address r)) (singles_of p rs) where
  go : (t : Bool) → AreSingles (map block_of (filter p (map placed_address rs)))
      → AreSingles (map block_of (cond t (placed_address r ∷ filter p (map placed_address rs)) (filter p (map placed_address rs))))
  go true ih = (refl, ih)
  go false ih = ih

-- in whatever order
abbrev IsSingle : Cidr → Type 0
IsSingle b = b.len ≡ width_of b.family

singles_in : (xs ys : List Cidr) → IsPermutation xs ys → AreSingles xs → AreSingles ys
singles_in xs ys h s = recursion_from_All IsSingle ys (All-permutation IsSingle xs ys h (All-from_recursion IsSingle xs s))

singles_held : (p : Placed → Bool) (rows : List IpAddress) (held : List Cidr) → IsPermutation (map block_of (filter p (map placed_address rows))) held → AreSingles held
singles_held p rows held h = singles_in (map block_of (filter p (map placed_address rows))) held h (singles_of p rows)

taken_held : (p : Placed → Bool) (rows : List IpAddress) (held : List Cidr) (a : ℕ) → IsPermutation (map block_of (filter p (map placed_address rows))) held
    → is_taken held a ≡ list_any (λ r. p (placed_address r) && r.host.addr.value == a) rows
taken_held p rows held a h = sym (list_any-IsPermutation (λ c. has_address c a) (map block_of (filter p (map placed_address rows))) held h) ∙ taken_of p rows a

-- ---- of a prefix

-- an address of a block lies in it by its family alone
in_block : (t : Bool) (low size v a : ℕ) → low ≤ a → a < low + size → (t && (v == a)) ≡ ((t && nat_le low v && nat_le v (low + size - 1)) && (v == a))
in_block true low size v a h k = grind (arith, nat_tests, h, k)
in_block false low size v a h k = refl

either : (u t s : Bool) → ((u && t) && s) ≡ (u && (t && s))
either true t s = refl
either false t s = refl

hosted_in_all : (rows : List IpAddress) (row : Prefix) (held : List Cidr) → sees_all row ≡ true → IsPermutation (blocks_of_all (map placed_address rows) row.block.family) held → HasHosts row.block (is_hosted rows row) held
hosted_in_all rows row held e h = record {
  each = λ a has.
      taken_held (λ q. same_family q.block.family row.block.family) rows held a h
      ∙ any_same (λ r. same_family r.host.addr.family row.block.family && r.host.addr.value == a) (λ r. is_child_address row r && r.host.addr.value == a) rows
      (λ r. in_block (same_family r.host.addr.family row.block.family) row.block.first (size_of row.block) r.host.addr.value a has.0 has.1
      ∙ ap (λ (t : Bool). ((t || same_table (table_of r.vrf) (table_of row.vrf)) && block_holds row.block r.host.addr) && (r.host.addr.value == a)) (sym e));
}

hosted_in_table : (rows : List IpAddress) (row : Prefix) (held : List Cidr) → sees_all row ≡ false → IsPermutation (blocks_of_rows (map placed_address rows) (table_of row.vrf) row.block.family) held → HasHosts row.block (is_hosted rows row) held
hosted_in_table rows row held e h = record {
  each = λ a has.
      taken_held (is_of (table_of row.vrf) row.block.family) rows held a h
      ∙ any_same (λ r. is_of (table_of row.vrf) row.block.family (placed_address r) && r.host.addr.value == a) (λ r. is_child_address row r && r.host.addr.value == a) rows
      (λ r. let u : Bool = same_table (table_of r.vrf) (table_of row.vrf) in
      either u (same_family r.host.addr.family row.block.family) (r.host.addr.value == a)
      ∙ ap (λ (t : Bool). u && t) (in_block (same_family r.host.addr.family row.block.family) row.block.first (size_of row.block) r.host.addr.value a has.0 has.1)
      ∙ sym (either u (block_holds row.block r.host.addr) (r.host.addr.value == a))
      ∙ ap (λ (t : Bool). ((t || u) && block_holds row.block r.host.addr) && (r.host.addr.value == a)) (sym e));
}

-- as a book says it: its clauses speak of the results of calls
pub in_all : (rows : List IpAddress) (row : Prefix) (held : List Cidr) (family : Family) → family ≡ row.block.family → sees_all row ≡ true → IsPermutation (blocks_of_all (map placed_address rows) family) held → HasHosts row.block (is_hosted rows row) held
in_all rows row held family f e h = hosted_in_all rows row held e (subst (λ (x : Family). IsPermutation (blocks_of_all (map placed_address rows) x) held) f h)

pub in_one : (rows : List IpAddress) (row : Prefix) (held : List Cidr) (table : Table) (family : Family) → table ≡ table_of row.vrf → family ≡ row.block.family → sees_all row ≡ false → IsPermutation (blocks_of_rows (map placed_address rows) table family) held → HasHosts row.block (is_hosted rows row) held
in_one rows row held table family tables f e h =
    hosted_in_table rows row held e
    (subst (λ (x : Family). IsPermutation (blocks_of_rows (map placed_address rows) (table_of row.vrf) x) held) f (subst (λ (u : Table). IsPermutation (blocks_of_rows (map placed_address rows) u family) held) tables h))

pub singles_in_all : (rows : List IpAddress) (held : List Cidr) (family : Family) → IsPermutation (blocks_of_all (map placed_address rows) family) held → AreSingles held
singles_in_all rows held family h = singles_held (λ q. same_family q.block.family family) rows held h

pub singles_in_table : (rows : List IpAddress) (held : List Cidr) (table : Table) (family : Family) → IsPermutation (blocks_of_rows (map placed_address rows) table family) held → AreSingles held
singles_in_table rows held table family h = singles_held (is_of table family) rows held h

-- ---- of a range

all_three : (u t s : Bool) → ((u && t) && s) ≡ (u && t && s)
all_three true true s = refl
all_three true false s = refl
all_three false t s = refl

hosted_beside : (rows : List IpAddress) (row : IpRange) (held : List Cidr) → IsPermutation (blocks_of_rows (map placed_address rows) (table_of row.vrf) row.ends.start.family) held → (a : ℕ) → is_taken held a ≡ is_host_beside rows row a
hosted_beside rows row held h a =
    taken_held (is_of (table_of row.vrf) row.ends.start.family) rows held a h
    ∙ any_same (λ r. is_of (table_of row.vrf) row.ends.start.family (placed_address r) && r.host.addr.value == a)
    (λ r. same_table (table_of r.vrf) (table_of row.vrf) && same_family r.host.addr.family row.ends.start.family && r.host.addr.value == a) rows
    (λ r. all_three (same_table (table_of r.vrf) (table_of row.vrf)) (same_family r.host.addr.family row.ends.start.family) (r.host.addr.value == a))

pub beside_in : (rows : List IpAddress) (row : IpRange) (held : List Cidr) (table : Table) (family : Family) → table ≡ table_of row.vrf → family ≡ row.ends.start.family → IsPermutation (blocks_of_rows (map placed_address rows) table family) held
    → HasJust (is_host_beside rows row) held
beside_in rows row held table family tables f h = record {
  each = hosted_beside rows row held
      (subst (λ (x : Family). IsPermutation (blocks_of_rows (map placed_address rows) (table_of row.vrf) x) held) f (subst (λ (u : Table). IsPermutation (blocks_of_rows (map placed_address rows) u family) held) tables h));
}
